-- The members of an answer are members of its operands, and the answer is the only one.
use Rattle.std.proofs.Common.{◌≡◌, ℕ, suc, ◌+◌, Bool, true, false, not, ◌&&◌, ◌||◌, eqb, sym, refl, ap, ◌∙◌, ⊎_elim, arith}
use Rattle.std.proofs.lemmas.Bool.{eq-eqb, eqb-true, ne_eqb, or_cases, or_parts, or_left, or_right, and_parts, both_ways, false≢true}
use Rattle.families.specs.Sets.{has, without, rest}
use Rattle.families.specs.Groups.{weight, holds}
use Rattle.families.specs.Trees.{Tree, none, always, node, passes, lists}
use Rattle.families.specs.Good.{occurs, Good}
use Rattle.families.specs.Questions.{Ask, either, both, less, turn, off, on}
use Rattle.families.specs.Outcomes.{outcome, answer}
use Rattle.families.specs.Meanings.{Answers, GoodAsk}
use Rattle.families.specs.Answered.{Answered, AnsweredOnce, FoundedAnyhow, among, MembersAmong, UptoKept}
use Rattle.families.proofs.Bools.{refute, affirm}
use Rattle.families.proofs.Weights.{holds_zero, holds_first, holds_add}
use Rattle.families.proofs.Numbers.{holds_drop}
use Rattle.families.proofs.Listing.{lists_low, lists_high, lists_cases, lists_below, lists_group, some_group}
use Rattle.families.proofs.Passing.{passes_lists, lists_self}
use Rattle.families.proofs.Canonical.{canonical, trees_once}
use Rattle.families.proofs.Lesses.{less_lists}
use Rattle.families.proofs.Cuts.{off_lists, on_lists}
use Rattle.families.proofs.Solving.{solve_same, answer_right}
use Rattle.families.proofs.Smallest.{lists_apart}

-- a member that stands in a tree is in one of its groups
pub occurs_lists : (b : ℕ) (t : Tree) (u : ℕ) → Good b t → occurs t u ≡ true → (n : ℕ) × (lists t n ≡ true) × (holds n u ≡ true)
occurs_lists b none u k e = absurd (false≢true e)
occurs_lists b always u k e = absurd (false≢true e)
occurs_lists b (node v a c) u k e = ⊎_elim
    (λ d.
    let r = some_group (suc v) c k.high k.some in
    (weight v + r.0, lists_high v a c r.0 r.1, ap (holds (weight v + r.0)) (eqb-true u v d) ∙ holds_first r.0 v k.fits.1 (lists_below v c r.0 k.high r.1)))
    (λ d. ⊎_elim
    (λ x. let r = occurs_lists (suc v) a u k.low x in (r.0, lists_low v a c r.0 r.1, r.2))
    (λ x.
    let r = occurs_lists (suc v) c u k.high x in
    (weight v + r.0, lists_high v a c r.0 r.1, holds_add r.0 v u k.fits.1 (lists_below v c r.0 k.high r.1) ∙ or_right (eqb u v) (holds r.0 u) r.2))
    (or_cases (occurs a u) (occurs c u) d))
    (or_cases (eqb u v) (occurs a u || occurs c u) e)

-- and a member of a group stands in the tree
pub lists_occurs : (b : ℕ) (t : Tree) (n u : ℕ) → Good b t → lists t n ≡ true → holds n u ≡ true → occurs t u ≡ true
lists_occurs b none n u k e h = absurd (false≢true e)
lists_occurs b always n u k e h = ⊎_elim (λ d. absurd (both_ways (holds 0 u) (holds_zero u) (ap (λ z. holds z u) (sym (eqb-true n 0 d)) ∙ h))) (λ d. absurd (false≢true d)) (or_cases (eqb n 0) false e)
lists_occurs b (node v a c) n u k e h = ⊎_elim
    (λ x. or_right (eqb u v) (occurs a u || occurs c u) (or_left (occurs a u) (occurs c u) (lists_occurs (suc v) a n u k.low x h)))
    (λ x. ⊎_elim
    (λ d. or_left (eqb u v) (occurs a u || occurs c u) d)
    (λ d. or_right (eqb u v) (occurs a u || occurs c u) (or_right (occurs a u) (occurs c u) (lists_occurs (suc v) c x.0 u k.high x.1 d)))
    (or_cases (eqb u v) (holds x.0 u) (sym (holds_add x.0 v u k.fits.1 (lists_below v c x.0 k.high x.1)) ∙ ap (λ z. holds z u) (sym x.2) ∙ h)))
    (lists_cases v a c n e)

-- what does not stand in a tree does not matter to it
pub passes_free : (t : Tree) (u : ℕ) (g h : ℕ → Bool) → occurs t u ≡ false → ((v : ℕ) → (v ≡ u → ⊥) → g v ≡ h v) → passes t g ≡ passes t h
passes_free none u g h e s = refl
passes_free always u g h e s = refl
passes_free (node v a c) u g h e s =
    let p = or_parts (eqb u v) (occurs a u || occurs c u) e in
    let q = or_parts (occurs a u) (occurs c u) p.1 in
    let x = passes_free a u g h q.0 s in
    let y = passes_free c u g h q.1 s in
    let z = s v (λ d. both_ways (eqb u v) p.0 (eq-eqb u v (sym d))) in
    cc

without_free : (u : ℕ) (g : ℕ → Bool) (v : ℕ) → (v ≡ u → ⊥) → g v ≡ without u g v
without_free u g v d = sym (ap (λ z. not z && g v) (ne_eqb v u d))

-- a member that stands in a tree matters: a group of it does not pass without it
pub occurs_matters : (b : ℕ) (t : Tree) (u : ℕ) → Good b t → occurs t u ≡ true → (g : ℕ → Bool) × (passes t g ≡ true) × (passes t (without u g) ≡ false)
occurs_matters b t u k e =
    let r = occurs_lists b t u k e in
    let n = r.0 in (
      holds n,
      lists_self b t n k r.1,
      refute (passes t (without u (holds n))) (λ x.
          let y = passes_lists b t (without u (holds n)) k x in
          let d = lists_apart b t k y.0 n y.1 r.1 (λ v h. (and_parts (not (eqb v u)) (holds n v) (y.2 v h)).1) in
          let h = (and_parts (not (eqb u u)) (holds n u) (y.2 u (ap (λ z. holds z u) d ∙ r.2))).0 in
          false≢true (sym (ap not (eq-eqb u u refl)) ∙ h)),
    )

-- so where no passing depends on u, u does not stand in the tree
matters_not : (b : ℕ) (t : Tree) (u : ℕ) → Good b t → ((g : ℕ → Bool) → passes t g ≡ passes t (without u g)) → occurs t u ≡ false
matters_not b t u k h = refute (occurs t u) (λ e. let r = occurs_matters b t u k e in false≢true (sym r.2 ∙ sym (h r.0) ∙ r.1))

among_by : (o a : Bool) → (a ≡ false → o ≡ false) → o ≡ true → a ≡ true
among_by o a h e = affirm a (λ d. false≢true (sym (h d) ∙ e))

answers_among : (b : ℕ) (q : Ask) (r : Tree) → GoodAsk b q → Answers b q r → (u : ℕ) → occurs r u ≡ true → among q u ≡ true
answers_among b (either f g) r k m u e = among_by (occurs r u) (occurs f u || occurs g u) (λ d.
    let p = or_parts (occurs f u) (occurs g u) d in
    matters_not b r u m.good (λ s.
    let x = passes_free f u s (without u s) p.0 (without_free u s) in
    let y = passes_free g u s (without u s) p.1 (without_free u s) in
    m.asks s ∙ ap (λ z. z || passes g s) x ∙ ap (λ z. passes f (without u s) || z) y ∙ sym (m.asks (without u s)))) e
answers_among b (both f g) r k m u e = among_by (occurs r u) (occurs f u || occurs g u) (λ d.
    let p = or_parts (occurs f u) (occurs g u) d in
    matters_not b r u m.good (λ s.
    let x = passes_free f u s (without u s) p.0 (without_free u s) in
    let y = passes_free g u s (without u s) p.1 (without_free u s) in
    m.asks s ∙ ap (λ z. z && passes g s) x ∙ ap (λ z. passes f (without u s) && z) y ∙ sym (m.asks (without u s)))) e
answers_among b (less f g) r k m u e = let x = occurs_lists b r u m.good e in lists_occurs b f x.0 u k.0 (less_lists f g r m x.0 x.1) x.2
answers_among b (turn f) r k m u e = among_by (occurs r u) (occurs f u) (λ d.
    matters_not b r u m.good (λ s. m.asks s ∙ ap not (passes_free f u (rest s) (rest (without u s)) d (λ v h. ap not (without_free u s v h))) ∙ sym (m.asks (without u s)))) e
answers_among b (off f w) r k m u e = let x = occurs_lists b r u m.good e in lists_occurs b f x.0 u k (off_lists f r m x.0 x.1) x.2
answers_among b (on f w) r k m u e =
    let x = occurs_lists b r u m.good e in
    let y = on_lists f r m x.0 x.1 in
    let h = (holds_drop y.0 w (lists_group b f y.0 k y.1) y.2).1 u in
    lists_occurs b f y.0 u k y.1 (and_parts (not (eqb u w)) (holds y.0 u) (sym h ∙ ap (λ z. holds z u) (sym y.3) ∙ x.2)).1

pub members_among : MembersAmong
members_among q k v e = answers_among 1 q (answer q) k (answer_right 1 (omega arith) (omega arith) q k) v e

pub upto_kept : UptoKept
upto_kept n q k h v e = h v (members_among q k v e)

-- two answers to one question are one
pub answers_once : (b : ℕ) (q : Ask) (r s : Tree) → Answers b q r → Answers b q s → r ≡ s
answers_once b (either f g) r s k m = canonical b r s k.good m.good (λ x. k.asks x ∙ sym (m.asks x))
answers_once b (both f g) r s k m = canonical b r s k.good m.good (λ x. k.asks x ∙ sym (m.asks x))
answers_once b (less f g) r s k m = trees_once b r s k.good m.good (λ n. ap (λ z. has z n) (k.listed ∙ sym m.listed))
answers_once b (turn f) r s k m = canonical b r s k.good m.good (λ x. k.asks x ∙ sym (m.asks x))
answers_once b (off f u) r s k m = trees_once b r s k.good m.good (λ n. ap (λ z. has z n) (k.listed ∙ sym m.listed))
answers_once b (on f u) r s k m = trees_once b r s k.good m.good (λ n. ap (λ z. has z n) (k.listed ∙ sym m.listed))

pub answered : Answered
answered = answer_right

pub answered_once : AnsweredOnce
answered_once q k r m = answers_once 1 q r (answer q) m (answer_right 1 (omega arith) (omega arith) q k)

pub founded_anyhow : FoundedAnyhow
unfolding outcome
founded_anyhow d p q k = solve_same d 49 1 (omega arith) (omega arith) q k
