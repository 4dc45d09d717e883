-- Every call is answered, and let in or denied as the questions tell.
use Rattle.std.proofs.Common.{◌≡◌, ℕ, List, length, Some, None, Ok, Err, Option, refl}
use Rattle.families.specs.Trees as tree
use Rattle.calls.specs.declared.answer.Answer.{Answer}
use Rattle.calls.specs.declared.answer.Answer.TheVariants.{Done, Same, Count, Verdict as Judging, Groups, Tally, Sheet}
use Rattle.calls.specs.declared.faults.Fault.{Fault}
use Rattle.calls.specs.Shelves.{Sizes, Shelves, Stocked, tree_on}
use Rattle.calls.specs.Acts.{Act, set, copy, clear, either, both, turn, replace, same, count, verdict, groups, tally, sheet}
use Rattle.calls.specs.Sheets.{sheet_length, over}
use Rattle.calls.specs.Denials.{denial}
use Rattle.calls.specs.Answers.{listed, Says, writes, changed}
use Rattle.calls.specs.Law.{Answered}
use Rattle.calls.proofs.Sources.{sources_stand}
use Rattle.calls.proofs.Judging.{some_judged}

module _ (z : Sizes) (ss : Shelves) (k : Stocked z.members ss) where
  some_says : (c : Act) (len : ℕ) → denial z ss c len ≡ None → (r : Answer) × Says ss c len r
  some_says (set c text) len e = (Done, refl)
  some_says (copy a c) len e = (Done, refl)
  some_says (clear c) len e = (Done, refl)
  some_says (either a b c) len e = (Done, refl)
  some_says (both a b c) len e = (Done, refl)
  some_says (turn a c) len e = (Done, refl)
  some_says (replace a u b c) len e = (Done, refl)
  some_says (same a b) len e = (Same (tree.equal (tree_on ss a) (tree_on ss b)), refl)
  some_says (count a) len e = (Count (length (tree.groups (tree_on ss a))), refl)
  some_says (verdict a) len e =
      let j = some_judged (tree_on ss a) (sources_stand z ss (verdict a) len k e).0.proper.good in
      (Judging j.0, (j.0, refl, j.1))
  some_says (groups a n) len e = (Groups (length (listed ss a n len)), refl)
  some_says tally len e = (Tally 0, (0, refl))
  some_says (sheet a) len e = (Sheet (sheet_length (tree_on ss a)), refl)

  pub call_answered : (c : Act) (bytes : List ℕ) → Answered z ss c bytes
  call_answered c bytes = by_denial (denial z ss c (length bytes)) refl
    where
      by_denial : (o : Option Fault) → denial z ss c (length bytes) ≡ o → Answered z ss c bytes
      by_denial (Some f) e = record {
        event = record { call = c; before = bytes; told = Err f; after = bytes };
        shelves = ss;
        called = refl;
        handed = refl;
        happens = record { first = e; bytes = refl; shelves = refl };
      }
      by_denial None e =
          let s = some_says c (length bytes) e in
          record {
            event = record { call = c; before = bytes; told = Ok s.0; after = over (writes ss c (length bytes)) bytes };
            shelves = changed z ss c;
            called = refl;
            handed = refl;
            happens = record { no_denial = e; says = s.1; bytes = refl; shelves = refl };
          }
