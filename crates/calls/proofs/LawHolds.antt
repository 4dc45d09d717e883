-- The law of whole runs of calls.
use Rattle.std.proofs.Common.{ℕ, ◌<◌, ◌↔◌, List}
use Rattle.calls.specs.Shelves.{Sizes, Shelves, SamePassing, on_shelf}
use Rattle.calls.specs.Events.{Event}
use Rattle.calls.specs.Lives.{Life, AnswerAlike}
use Rattle.calls.specs.Law.{Law}
use Rattle.calls.proofs.Stands.{good_stand}
use Rattle.calls.proofs.SamePassing.{same_shelves}
use Rattle.calls.proofs.Stocking.{life_stocked}
use Rattle.calls.proofs.Denying.{denied_told}
use Rattle.calls.proofs.Others.{others_kept}
use Rattle.calls.proofs.Passed.{passes_after}
use Rattle.calls.proofs.Answering.{call_answered}
use Rattle.calls.proofs.Best.{verdict_best}
use Rattle.calls.proofs.Lengths.{buffer_kept}
use Rattle.calls.proofs.Printing.{sheet_shows, sheets_same}
use Rattle.calls.proofs.Alike.{further_alike}
use Rattle.calls.proofs.Apart.{alike_passing}

answers_alike : (z : Sizes) (es fs : List Event) (ss tt' : Shelves) → Life z es ss → Life z fs tt' → AnswerAlike z ss tt' ↔ ((i : ℕ) → i < 16 → SamePassing (on_shelf ss i) (on_shelf tt' i))
answers_alike z es fs ss tt' l m =
    let k = life_stocked l in
    let j = life_stocked m in (
      λ a i b. alike_passing z ss tt' a i b (good_stand z.members (on_shelf ss i) (k.each i b)) (good_stand z.members (on_shelf tt' i) (j.each i b)),
      λ h xs ys us vs p q c. further_alike (same_shelves z.members ss tt' k j h) p q c,
    )

pub law : Law
law = record {
  answered = λ z es ss l. call_answered z ss (life_stocked l);
  denied = denied_told;
  stocked = λ z es ss l. life_stocked l;
  passes = passes_after;
  others = others_kept;
  lengths = buffer_kept;
  nondominated = verdict_best;
  sheets = sheets_same;
  shows = sheet_shows;
  alike = answers_alike;
}
