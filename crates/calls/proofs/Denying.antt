-- What is told says whether a call was let in.
use Rattle.std.proofs.Common.{◌≡◌, ℕ, ◌↔◌, List, length, Some, None, Ok, Err, Result, refl, subst, arith}
use Rattle.calls.specs.declared.answer.Answer.{Answer}
use Rattle.calls.specs.declared.faults.Fault.{Fault}
use Rattle.calls.specs.Shelves.{Sizes, Shelves}
use Rattle.calls.specs.Acts.{Act}
use Rattle.calls.specs.Denials.{denial}
use Rattle.calls.specs.Events.{Event, Happens, LetIn, Tells}

module _ (z : Sizes) (ss tt' : Shelves) (c : Act) (before after : List ℕ) where
  tells_denied : (r : Result Answer Fault) → Tells z ss c before r after tt' → (f : Fault) → (r ≡ Err f) ↔ (denial z ss c (length before) ≡ Some f)
  tells_denied (Ok r) h f = (
    λ e. let no_way : ◌≡◌ {A = ℕ} 0 1 = cc in absurd (omega arith),
    λ e. let is = h.no_denial in let no_way : ◌≡◌ {A = ℕ} 0 1 = cc in absurd (omega arith),
  )
  tells_denied (Err g) h f = ((λ e. let is = h.first in cc), λ e. let is = h.first in cc)

  tells_let_in : (r : Result Answer Fault) → Tells z ss c before r after tt' → denial z ss c (length before) ≡ None → (a : Answer) × (r ≡ Ok a)
  tells_let_in (Ok r) h e = (r, refl)
  tells_let_in (Err g) h e = let is = h.first in let no_way : ◌≡◌ {A = ℕ} 0 1 = cc in absurd (omega arith)

module _ (z : Sizes) (ss tt' : Shelves) (e : Event) (h : Happens z ss e tt') where
  pub denied_told : (f : Fault) → (e.told ≡ Err f) ↔ (denial z ss e.call (length e.before) ≡ Some f)
  denied_told f = tells_denied z ss tt' e.call e.before e.after e.told h f

  -- an event with an answer is let in
  pub answer_let_in : (a : Answer) → e.told ≡ Ok a → LetIn z ss e.call e.before a e.after tt'
  answer_let_in a is = subst (λ r. Tells z ss e.call e.before r e.after tt') is h

  -- and so is one that no question denies
  pub undenied_let_in : denial z ss e.call (length e.before) ≡ None → (a : Answer) × LetIn z ss e.call e.before a e.after tt'
  undenied_let_in none = let r = tells_let_in z ss tt' e.call e.before e.after e.told h none in (r.0, answer_let_in r.0 r.1)
