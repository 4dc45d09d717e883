-- Every set of groups none of which contains another has exactly one tree.
use Rattle.std.proofs.Common.{◌≡◌, ℕ, zero, suc, ◌+◌, ◌-◌, ◌^◌, ◌<◌, ◌≤◌, Bool, true, false, cond, ◌&&◌, eqb, ltb, sym, ap, ◌∙◌, subst, ⊎_elim, arith}
use Rattle.std.proofs.lemmas.Bool.{eq-eqb, eqb-true, ltb-true, lt-ltb, or_cases, or_left, and_parts, and_from, both_ways, cases_lt, cond_both, false≢true}
use Rattle.families.specs.Sets.{has, Inside}
use Rattle.families.specs.Groups.{weight, holds, number}
use Rattle.families.specs.Trees.{Tree, none, always, node, build, passes, groups, lists}
use Rattle.families.specs.Good.{Apart, Good}
use Rattle.families.specs.Canonical.{Canonical, OneTree, TreeFamily}
use Rattle.families.proofs.Bools.{same_tests, refute}
use Rattle.families.proofs.Weights.{weight_of, is_member_lem}
use Rattle.families.proofs.Numbers.{holds_number, number_group}
use Rattle.families.proofs.Listing.{each_all, lists_low, lists_high, lists_cases, lists_group}
use Rattle.families.proofs.Passing.{passes_above, passes_lists}
use Rattle.families.proofs.Canonical.{canonical, trees_once}
use Rattle.families.proofs.Parts.{build_listed, build_good}
use Rattle.families.proofs.Smallest.{inside_add, inside_put, lists_apart}

-- a set passes exactly when its number does
pub passes_number : (b : ℕ) (t : Tree) → Good b t → (g : ℕ → Bool) → passes t (holds (number g)) ≡ passes t g
passes_number b t k g = passes_above b t (holds (number g)) g k (λ v f. holds_number g v ∙ ap (λ z. z && g v) (is_member_lem v f.1))

pub canonical_groups : Canonical
canonical_groups s t k m e = canonical 1 s t k m (λ g. sym (passes_number 1 s k g) ∙ e (number g) (number_group g) ∙ passes_number 1 t m g)

-- the tree of what C picks among the last k members
tree_of : ℕ → (ℕ → Bool) → Tree
tree_of zero C = cond (C 0) always none
tree_of (suc k) C = build (48 - k) (tree_of k C) (tree_of k (λ n. C (weight (48 - k) + n)))

lists_built : (v : ℕ) (l h : Tree) (n : ℕ) → lists (build v l h) n ≡ lists (node v l h) n
lists_built v l h n = ap (λ z. has z n) (build_listed v l h)

tree_of_lists : (k : ℕ) → k ≤ 48 → (C : ℕ → Bool) (n : ℕ) → lists (tree_of k C) n ≡ (ltb n (2 ^ k) && C n)
unfolding tree_of
tree_of_lists zero p C n = cond_both (C 0) always none (λ t. lists t n ≡ (ltb n 1 && C n))
    (λ e. same_tests (lists always n) (ltb n 1 && C n)
    (λ h. ⊎_elim (λ d. let z = eqb-true n 0 d in and_from (ltb n 1) (C n) (lt-ltb n 1 (omega arith)) (ap C z ∙ e)) (λ d. absurd (false≢true d)) (or_cases (eqb n 0) false h))
    (λ h. let q = ltb-true n 1 (and_parts (ltb n 1) (C n) h).0 in or_left (eqb n 0) false (eq-eqb n 0 (omega arith))))
    (λ e. sym (refute (ltb n 1 && C n) (λ h.
    let q = and_parts (ltb n 1) (C n) h in
    let r = ltb-true n 1 q.0 in
    let z : n ≡ 0 = omega arith in
    both_ways (C 0) e (ap C (sym z) ∙ q.1))))
tree_of_lists (suc k) p C n =
    let w = weight_of k (omega arith) in
    let C' : ℕ → Bool = λ m. C (weight (48 - k) + m) in
    let l = tree_of k C in
    let h = tree_of k C' in
    lists_built (48 - k) l h n ∙ same_tests (lists (node (48 - k) l h) n) (ltb n (2 ^ suc k) && C n)
    (λ e. ⊎_elim
    (λ x.
    let q = and_parts (ltb n (2 ^ k)) (C n) (sym (tree_of_lists k (omega arith) C n) ∙ x) in
    let r = ltb-true n (2 ^ k) q.0 in
    and_from (ltb n (2 ^ suc k)) (C n) (lt-ltb n (2 ^ suc k) (omega arith)) q.1)
    (λ x.
    let q = and_parts (ltb x.0 (2 ^ k)) (C' x.0) (sym (tree_of_lists k (omega arith) C' x.0) ∙ x.1) in
    let r = ltb-true x.0 (2 ^ k) q.0 in
    let y = x.2 in
    and_from (ltb n (2 ^ suc k)) (C n) (lt-ltb n (2 ^ suc k) (omega arith)) (ap C y ∙ q.1))
    (lists_cases (48 - k) l h n e))
    (λ e.
    let q = and_parts (ltb n (2 ^ suc k)) (C n) e in
    let r = ltb-true n (2 ^ suc k) q.0 in
    ⊎_elim
    (λ x. lists_low (48 - k) l h n (tree_of_lists k (omega arith) C n ∙ and_from (ltb n (2 ^ k)) (C n) (lt-ltb n (2 ^ k) x) q.1))
    (λ x.
    let m = n - 2 ^ k in
    let d : weight (48 - k) + m ≡ n = omega arith in
    let s : m < 2 ^ k = omega arith in
    ap (lists (node (48 - k) l h)) (sym d) ∙ lists_high (48 - k) l h m (tree_of_lists k (omega arith) C' m ∙ and_from (ltb m (2 ^ k)) (C' m) (lt-ltb m (2 ^ k) s) (ap C d ∙ q.1)))
    (cases_lt n (2 ^ k)))

-- of the groups of the last k members that C picks, none contains another
abbrev ApartBelow : ℕ → (ℕ → Bool) → Type 0
ApartBelow k C = (m n : ℕ) → m < 2 ^ k → n < 2 ^ k → C m ≡ true → C n ≡ true → Inside (holds m) (holds n) → m ≡ n

tree_of_picks : (k : ℕ) → k ≤ 48 → (C : ℕ → Bool) (n : ℕ) → lists (tree_of k C) n ≡ true → (n < 2 ^ k) × (C n ≡ true)
tree_of_picks k p C n e = let q = and_parts (ltb n (2 ^ k)) (C n) (sym (tree_of_lists k p C n) ∙ e) in (ltb-true n (2 ^ k) q.0, q.1)

-- what C picks with the member 48 - k, that member taken out
abbrev with_member : ℕ → (ℕ → Bool) → ℕ → Bool
with_member k C n = C (weight (48 - k) + n)

module _ (k : ℕ) (p : suc k ≤ 48) (C : ℕ → Bool) (a : ApartBelow (suc k) C) where
  apart_low : ApartBelow k C
  apart_low m n x y = a m n (omega arith) (omega arith)

  apart_high : ApartBelow k (with_member k C)
  apart_high m n x y d e s =
      let w = weight_of k (omega arith) in
      let j = a (weight (48 - k) + m) (weight (48 - k) + n) (omega arith) (omega arith) d e (inside_add (48 - k) m n (omega arith) (omega arith) (omega arith) s) in
      omega arith

  apart_parts : Good (suc (48 - k)) (tree_of k C) → Apart (tree_of k C) (tree_of k (with_member k C))
  apart_parts g = each_all (λ n. passes (tree_of k C) (holds n) ≡ false) (groups (tree_of k (with_member k C))) (λ n e. refute (passes (tree_of k C) (holds n)) (λ t.
      let w = weight_of k (omega arith) in
      let r = passes_lists (suc (48 - k)) (tree_of k C) (holds n) g t in
      let x = tree_of_picks k (omega arith) C r.0 r.1 in
      let y = tree_of_picks k (omega arith) (with_member k C) n e in
      let i = inside_put (48 - k) r.0 n (omega arith) (omega arith) (omega arith) r.2 in
      let j = a r.0 (weight (48 - k) + n) (omega arith) (omega arith) x.1 y.1 i in
      omega arith))

tree_of_good : (k : ℕ) → k ≤ 48 → (C : ℕ → Bool) → ApartBelow k C → Good (49 - k) (tree_of k C)
unfolding tree_of
tree_of_good zero p C a = cond_both (C 0) always none (Good 49) (λ e. tt) (λ e. tt)
tree_of_good (suc k) p C a =
    let c : 49 - k ≡ suc (48 - k) = omega arith in
    let l = subst (λ z. Good z (tree_of k C)) c (tree_of_good k (omega arith) C (apart_low k p C a)) in
    let h = subst (λ z. Good z (tree_of k (with_member k C))) c (tree_of_good k (omega arith) (with_member k C) (apart_high k p C a)) in
    build_good (49 - suc k) (48 - k) (tree_of k C) (tree_of k (with_member k C)) (omega arith) l h (apart_parts k p C a l)

pub one_tree : OneTree
one_tree C F =
    let t = tree_of 48 C in
    let k = tree_of_good 48 (omega arith) C (λ m n p q. F.apart m n) in
    let e : (n : ℕ) → lists t n ≡ C n = λ n. tree_of_lists 48 (omega arith) C n ∙ same_tests (ltb n (2 ^ 48) && C n) (C n)
    (λ h. (and_parts (ltb n (2 ^ 48)) (C n) h).1) (λ h. and_from (ltb n (2 ^ 48)) (C n) (lt-ltb n (2 ^ 48) (F.group n h)) h) in
    (t, record { good = k; listed = e; once = λ s m d. trees_once 1 s t m k (λ n. d n ∙ sym (e n)) })

pub tree_family : TreeFamily
tree_family t k = record { group = λ n e. lists_group 1 t n k e; apart = lists_apart 1 t k }
