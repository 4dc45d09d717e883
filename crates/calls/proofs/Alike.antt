-- From the same shelves, the same calls are answered alike, and lead to the same shelves.
use Rattle.std.proofs.Common.{◌≡◌, ℕ, List, length, Ok, Err, Result, sym, refl, ap, ◌∙◌, subst, arith}
use Rattle.families.specs.Trees.{Tree}
use Rattle.calls.specs.declared.answer.Answer.{Answer}
use Rattle.calls.specs.declared.answer.Answer.TheVariants.{Verdict as Judging}
use Rattle.calls.specs.declared.answer.Verdict.{Verdict}
use Rattle.calls.specs.declared.answer.Verdict.TheVariants.{Nondominated, Dominated, Clash}
use Rattle.calls.specs.declared.faults.Fault.{Fault}
use Rattle.calls.specs.Shelves.{Sizes, Shelves, tree_on}
use Rattle.calls.specs.Acts.{Act, set, copy, clear, either, both, turn, replace, same, count, verdict, groups, tally, sheet}
use Rattle.calls.specs.Sheets.{Judged}
use Rattle.calls.specs.Answers.{Says}
use Rattle.calls.specs.Events.{Event, Happens, Tells}
use Rattle.calls.specs.Lives.{Further, at_end, then_on, SameCalls, fixed_part, SameAnswers}

-- what is fixed of an answer
abbrev fixed : Answer → Result Answer Fault
fixed r = fixed_part (Ok r)

judged_alike : (f : Tree) (v w : Verdict) → Judged f v → Judged f w → fixed (Judging v) ≡ fixed (Judging w)
judged_alike f Nondominated Nondominated p q = refl
judged_alike f Nondominated (Dominated w) p q = absurd (omega (arith, q.0))
judged_alike f Nondominated (Clash m k) p q = absurd (omega (arith, q.0))
judged_alike f (Dominated v) Nondominated p q = absurd (omega (arith, p.0))
judged_alike f (Dominated v) (Dominated w) p q = ap (λ x. Ok (Judging (Dominated x))) (p.1 ∙ sym q.1)
judged_alike f (Dominated v) (Clash m k) p q = absurd (omega (arith, p.0, q.0))
judged_alike f (Clash m k) Nondominated p q = absurd (omega (arith, p.0))
judged_alike f (Clash m k) (Dominated w) p q = absurd (omega (arith, p.0, q.0))
judged_alike f (Clash m k) (Clash m' k') p q = refl

-- where an answer is one of a kind
said_once : (a b c : Answer) → a ≡ c → b ≡ c → fixed a ≡ fixed b
said_once a b c p q = ap fixed (p ∙ sym q)

says_alike : (ss : Shelves) (c : Act) (len : ℕ) (a b : Answer) → Says ss c len a → Says ss c len b → fixed a ≡ fixed b
says_alike ss (set c text) len a b p q = said_once a b _ p q
says_alike ss (copy i c) len a b p q = said_once a b _ p q
says_alike ss (clear c) len a b p q = said_once a b _ p q
says_alike ss (either i j c) len a b p q = said_once a b _ p q
says_alike ss (both i j c) len a b p q = said_once a b _ p q
says_alike ss (turn i c) len a b p q = said_once a b _ p q
says_alike ss (replace i u j c) len a b p q = said_once a b _ p q
says_alike ss (same i j) len a b p q = said_once a b _ p q
says_alike ss (count i) len a b p q = said_once a b _ p q
says_alike ss (verdict i) len a b p q = ap fixed p.1 ∙ judged_alike (tree_on ss i) p.0 q.0 p.2 q.2 ∙ sym (ap fixed q.1)
says_alike ss (groups i n) len a b p q = said_once a b _ p q
says_alike ss tally len a b p q = ap fixed p.1 ∙ sym (ap fixed q.1)
says_alike ss (sheet i) len a b p q = said_once a b _ p q

-- answers, bytes and shelves are alike
pub record Alike (r r' : Result Answer Fault) (after after' : List ℕ) (mid mid' : Shelves) : Type 0 where
  pub told : fixed_part r ≡ fixed_part r'
  pub bytes : after ≡ after'
  pub shelves : mid ≡ mid'

module _ (z : Sizes) (ss : Shelves) (c : Act) (before : List ℕ) where
  tells_alike : (r r' : Result Answer Fault) (after after' : List ℕ) (mid mid' : Shelves) → Tells z ss c before r after mid → Tells z ss c before r' after' mid' → Alike r r' after after' mid mid'
  tells_alike (Ok a) (Ok b) after after' mid mid' h k = record {
    told = says_alike ss c (length before) a b h.says k.says;
    bytes = h.bytes ∙ sym k.bytes;
    shelves = h.shelves ∙ sym k.shelves;
  }
  tells_alike (Ok a) (Err g) after after' mid mid' h k = let p = h.no_denial in let q = k.first in let no_way : ◌≡◌ {A = ℕ} 0 1 = cc in absurd (omega arith)
  tells_alike (Err f) (Ok b) after after' mid mid' h k = let p = h.first in let q = k.no_denial in let no_way : ◌≡◌ {A = ℕ} 0 1 = cc in absurd (omega arith)
  tells_alike (Err f) (Err g) after after' mid mid' h k = record {
    told = let p = h.first in let q = k.first in cc;
    bytes = h.bytes ∙ sym k.bytes;
    shelves = h.shelves ∙ sym k.shelves;
  }

happens_alike : (z : Sizes) (ss tt' mid mid' : Shelves) (e f : Event) → ss ≡ tt' → e.call ≡ f.call → e.before ≡ f.before → Happens z ss e mid → Happens z tt' f mid' → Alike e.told f.told e.after f.after mid mid'
happens_alike z ss tt' mid mid' e f shelves call before h k =
    let k' = subst (λ x. Tells z x f.call f.before f.told f.after mid') (sym shelves) k in
    let k'' = subst (λ x. Tells z ss x f.before f.told f.after mid') (sym call) k' in
    let k''' = subst (λ x. Tells z ss e.call x f.told f.after mid') (sym before) k'' in
    tells_alike z ss e.call e.before e.told f.told e.after f.after mid mid' h k'''

pub further_alike : {z : Sizes} {ss tt' : Shelves} {es fs : List Event} {ss' tt'' : Shelves} → ss ≡ tt' → Further z ss es ss' → Further z tt' fs tt'' → SameCalls es fs → SameAnswers es fs
further_alike shelves at_end at_end c = tt
further_alike shelves at_end (then_on k m) c = absurd c
further_alike shelves (then_on h l) at_end c = absurd c
further_alike {z} {ss} {tt'} shelves (then_on {mid = mid} {e = e} h l) (then_on {mid = mid'} {e = f} k m) c =
    let a = happens_alike z ss tt' mid mid' e f shelves c.0 c.1 h k in
    (a.told, a.bytes, further_alike a.shelves l m c.2)
