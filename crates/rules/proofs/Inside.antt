-- What lies in the term of a list: its items, and each "least j of the items from i on" that the expansion passes through.
use Rattle.std.proofs.Common.{◌≡◌, ℕ, zero, suc, ◌+◌, ◌-◌, ◌<◌, ◌≤◌, cond, eqb, List, [], ◌∷◌, length, drop, sym, ap, subst, ⊎_elim, not-suc-le-zero, arith}
use Rattle.std.proofs.lemmas.Bool.{cases_eq, cases_lt, cond_both, eqb-false}
use Rattle.rules.specs.Terms.{Term, both, either, subterms, all_of, any_of, least_of}
use Rattle.rules.specs.Members.{◌∈◌, ◌⊆◌}
use Rattle.rules.proofs.LeastOf.{least_of_one, least_of_whole, least_of_inner}
use Rattle.rules.proofs.Subterms.{both_left, both_right, either_left, either_right, subterms_equal}

pub inside_all : (es : List Term) (e : Term) → e ∈ es → subterms e ⊆ subterms (all_of es)
inside_all [] e m = absurd m
inside_all (f ∷ []) e m = ⊎_elim (λ p. subterms_equal e f p) (λ n. absurd n) m
inside_all (f ∷ g ∷ es) e m =
    ⊎_elim (λ p x k. both_left f (all_of (g ∷ es)) x (subterms_equal e f p x k))
    (λ n x k. both_right f (all_of (g ∷ es)) x (inside_all (g ∷ es) e n x k))
    m

pub inside_any : (es : List Term) (e : Term) → e ∈ es → subterms e ⊆ subterms (any_of es)
inside_any [] e m = absurd m
inside_any (f ∷ []) e m = ⊎_elim (λ p. subterms_equal e f p) (λ n. absurd n) m
inside_any (f ∷ g ∷ es) e m =
    ⊎_elim (λ p x k. either_left f (any_of (g ∷ es)) x (subterms_equal e f p x k))
    (λ n x k. either_right f (any_of (g ∷ es)) x (inside_any (g ∷ es) e n x k))
    m

-- the step of the table to the next item: with all or any only one cell is reached
whole_next : (j : ℕ) (e : Term) (es : List Term) → 1 ≤ length es → j ≡ suc (length es) → subterms (least_of (j - 1) es) ⊆ subterms (least_of j (e ∷ es))
whole_next j e es h p = subst (λ t. subterms (least_of (j - 1) es) ⊆ subterms t) (sym (least_of_whole j e es h p)) (both_right e (least_of (j - 1) es))

one_next : (e : Term) (es : List Term) → 1 ≤ length es → subterms (least_of 1 es) ⊆ subterms (least_of 1 (e ∷ es))
one_next e es h = subst (λ t. subterms (least_of 1 es) ⊆ subterms t) (sym (least_of_one e es h)) (either_right e (least_of 1 es))

-- between them the cell below and the cell at the same height
pub inner_first : (j : ℕ) (e : Term) (es : List Term) → (j ≡ 1 → ⊥) → (j ≡ suc (length es) → ⊥) → subterms (both e (least_of (j - 1) es)) ⊆ subterms (least_of j (e ∷ es))
inner_first j e es p q = subst (λ t. subterms (both e (least_of (j - 1) es)) ⊆ subterms t) (sym (least_of_inner j e es p q)) (either_left (both e (least_of (j - 1) es)) (least_of j es))

inner_below : (j : ℕ) (e : Term) (es : List Term) → (j ≡ 1 → ⊥) → (j ≡ suc (length es) → ⊥) → subterms (least_of (j - 1) es) ⊆ subterms (least_of j (e ∷ es))
inner_below j e es p q x m = inner_first j e es p q x (both_right e (least_of (j - 1) es) x m)

inner_level : (j : ℕ) (e : Term) (es : List Term) → (j ≡ 1 → ⊥) → (j ≡ suc (length es) → ⊥) → subterms (least_of j es) ⊆ subterms (least_of j (e ∷ es))
inner_level j e es p q = subst (λ t. subterms (least_of j es) ⊆ subterms t) (sym (least_of_inner j e es p q)) (either_right (both e (least_of (j - 1) es)) (least_of j es))

-- one item on, one less of the rest is reached unless any one will do
pub next_below : (k : ℕ) (e : Term) (es : List Term) → 1 < k → k ≤ suc (length es) → subterms (least_of (k - 1) es) ⊆ subterms (least_of k (e ∷ es))
next_below k e es l h = ⊎_elim (λ p. whole_next k e es (omega arith) p) (λ p. inner_below k e es (omega arith) p) (cases_eq k (suc (length es)))

-- one item on, as many of the rest are reached unless all are wanted
pub next_level : (k : ℕ) (e : Term) (es : List Term) → 1 ≤ k → k ≤ length es → subterms (least_of k es) ⊆ subterms (least_of k (e ∷ es))
next_level k e es l h = ⊎_elim (λ p. subst (λ n. subterms (least_of n es) ⊆ subterms (least_of n (e ∷ es))) (sym p) (one_next e es (omega arith))) (λ p. inner_level k e es p (omega arith)) (cases_eq k 1)

pub band : (k i j : ℕ) (es : List Term) → 1 ≤ k → k ≤ length es → i < length es → 1 ≤ j → j ≤ k → k ≤ j + i → j + i ≤ length es → subterms (least_of j (drop i es)) ⊆ subterms (least_of k es)
band k i j [] a b c d e f g = absurd (not-suc-le-zero c)
band k zero j (t ∷ es) a b c d e f g = let p : j ≡ k = omega arith in subterms_equal (least_of j (t ∷ es)) (least_of k (t ∷ es)) (ap (λ n. least_of n (t ∷ es)) p)
band k (suc i) j (t ∷ es) a b c d e f g =
    ⊎_elim (λ h x m. next_below k t es (omega arith) (omega arith) x (band (k - 1) i j es (omega arith) (omega arith) (omega arith) (omega arith) (omega arith) (omega arith) (omega arith) x m))
    (λ h x m. next_level k t es (omega arith) (omega arith) x (band k i j es (omega arith) (omega arith) (omega arith) (omega arith) (omega arith) (omega arith) (omega arith) x m))
    (cases_lt j k)

pub inside_least : (k : ℕ) (es : List Term) (e : Term) → 1 ≤ k → k ≤ length es → e ∈ es → subterms e ⊆ subterms (least_of k es)
inside_least k [] e a b m = absurd m
inside_least k (f ∷ es) e a b m =
    cond_both (eqb k (suc (length es))) (all_of (f ∷ es)) (cond (eqb k 1) (any_of (f ∷ es)) (either (both f (least_of (k - 1) es)) (least_of k es))) (λ t. subterms e ⊆ subterms t)
    (λ p. inside_all (f ∷ es) e m)
    (λ p. cond_both (eqb k 1) (any_of (f ∷ es)) (either (both f (least_of (k - 1) es)) (least_of k es)) (λ t. subterms e ⊆ subterms t)
    (λ q. inside_any (f ∷ es) e m)
    (λ q. ⊎_elim (λ r x n. either_left (both f (least_of (k - 1) es)) (least_of k es) x (both_left f (least_of (k - 1) es) x (subterms_equal e f r x n)))
    (λ r x n. either_right (both f (least_of (k - 1) es)) (least_of k es) x (inside_least k es e a (omega (arith, eqb-false k (suc (length es)) p)) r x n))
    m))
