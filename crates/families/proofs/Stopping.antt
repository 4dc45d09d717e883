-- Stopping groups and turning.
use Rattle.std.proofs.Common.{◌≡◌, ℕ, Bool, true, false, not, ◌&&◌, ◌↔◌, sym, refl, ap, ◌∙◌, ⊎_elim, arith}
use mathlib.Core.Path.{fun_ext}
use Rattle.std.proofs.lemmas.Bool.{and_parts, both_ways, not-true}
use Rattle.families.specs.Sets.{Inside, rest}
use Rattle.families.specs.Groups.{is_member, holds, number}
use Rattle.families.specs.Trees.{Tree, passes}
use Rattle.families.specs.Good.{Good}
use Rattle.families.specs.Kinds.{Passing, Stopping}
use Rattle.families.specs.Questions.{turn}
use Rattle.families.specs.Outcomes.{answer}
use Rattle.families.specs.Meanings.{Turn}
use Rattle.families.specs.Answered.{TurnSmallest, TurnTwice}
use Rattle.families.proofs.Bools.{refute, not_both}
use Rattle.families.proofs.Numbers.{holds_number, number_group}
use Rattle.families.proofs.Common.{meets_or}
use Rattle.families.proofs.Passing.{passes_mono}
use Rattle.families.proofs.Canonical.{canonical}
use Rattle.families.proofs.Solving.{answer_right}
use Rattle.families.proofs.Smallest.{smallest_lists}
use Rattle.families.proofs.Families.{passes_number}

pub turned : (f : Tree) → Good 1 f → Turn 1 f (answer (turn f))
turned f k = answer_right 1 (omega arith) (omega arith) (turn f) k

-- where two groups share no member, one is among the rest of the other
apart_rest : (m n : ℕ) → ((v : ℕ) → (holds m v && holds n v) ≡ false) → Inside (holds n) (rest (holds m))
apart_rest m n h v e = ap not (refute (holds m v) (λ d. both_ways (holds m v && holds n v) (h v) (and_both (holds m v) (holds n v) d e)))
  where
    and_both : (x y : Bool) → x ≡ true → y ≡ true → (x && y) ≡ true
    and_both x y p q = grind arith

-- a group stops exactly when the family passes nothing of the rest
pub stopping_rest : (f : Tree) → Good 1 f → (n : ℕ) → Stopping f n ↔ (passes f (rest (holds n)) ≡ false)
stopping_rest f k n = (
  λ s. refute (passes f (rest (holds n))) (λ e.
      let r = s (number (rest (holds n))) (number_group (rest (holds n))) (passes_number 1 f k (rest (holds n)) ∙ e) in
      let h = (and_parts (is_member r.0) (rest (holds n) r.0) (sym (holds_number (rest (holds n)) r.0) ∙ r.2)).1 in
      not_both (holds n r.0) r.1 h),
  λ e m g p. ⊎_elim (λ r. r) (λ r. absurd (both_ways (passes f (rest (holds n))) e (passes_mono f (holds m) (rest (holds n)) (apart_rest n m r) p))) (meets_or n m),
)

-- turn passes just the stopping groups
pub stopping_passes : (f : Tree) → Good 1 f → (n : ℕ) → Stopping f n ↔ Passing (answer (turn f)) n
stopping_passes f k n =
    let t = turned f k in
    let s = stopping_rest f k n in
    ((λ h. t.asks (holds n) ∙ ap not (s.0 h)), λ h. s.1 (not-true (passes f (rest (holds n))) (sym (t.asks (holds n)) ∙ h)))

pub turn_smallest : TurnSmallest
turn_smallest f k n = smallest_lists (answer (turn f)) (turned f k).good (Stopping f) (λ m g. stopping_passes f k m) n

not_not : (b : Bool) → not (not b) ≡ b
not_not true = refl
not_not false = refl

pub turn_twice : TurnTwice
turn_twice f k =
    let t = turned f k in
    let u = turned (answer (turn f)) t.good in
    canonical 1 (answer (turn (answer (turn f)))) f u.good k (λ g. u.asks g ∙ ap not (t.asks (rest g)) ∙ not_not (passes f (rest (rest g))) ∙ ap (passes f) (fun_ext (λ n. not_not (g n))))
