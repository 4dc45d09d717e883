-- The term of "least j of these": all of them, any of them, and one step into the list.
use Rattle.std.proofs.Common.{◌≡◌, ℕ, suc, ◌-◌, ◌≤◌, List, [], ◌∷◌, length, sym, refl, ap, ◌∙◌, not-suc-le-zero, arith}
use Rattle.std.proofs.lemmas.Bool.{cond-true, cond-false, eq-eqb, ne_eqb}
use Rattle.rules.specs.Terms.{Term, both, either, all_of, any_of, least_of}

pub least_of_all : (es : List Term) → least_of (length es) es ≡ all_of es
least_of_all [] = refl
least_of_all (e ∷ es) = rw (eq-eqb (suc (length es)) (suc (length es)) refl)

pub least_of_any : (es : List Term) → least_of 1 es ≡ any_of es
least_of_any [] = refl
least_of_any (e ∷ []) = refl
least_of_any (e ∷ f ∷ es) = rw (ne_eqb 1 (suc (suc (length es))) (omega arith))

pub all_of_more : (e : Term) (es : List Term) → 1 ≤ length es → all_of (e ∷ es) ≡ both e (all_of es)
all_of_more e [] h = absurd (not-suc-le-zero h)
all_of_more e (f ∷ es) h = refl

pub any_of_more : (e : Term) (es : List Term) → 1 ≤ length es → any_of (e ∷ es) ≡ either e (any_of es)
any_of_more e [] h = absurd (not-suc-le-zero h)
any_of_more e (f ∷ es) h = refl

pub least_of_one : (e : Term) (es : List Term) → 1 ≤ length es → least_of 1 (e ∷ es) ≡ either e (least_of 1 es)
least_of_one e es h = least_of_any (e ∷ es) ∙ any_of_more e es h ∙ ap (either e) (sym (least_of_any es))

pub least_of_whole : (j : ℕ) (e : Term) (es : List Term) → 1 ≤ length es → j ≡ suc (length es) → least_of j (e ∷ es) ≡ both e (least_of (j - 1) es)
least_of_whole j e es h p =
    let q : j - 1 ≡ length es = omega arith in
    cond-true _ _ _ (eq-eqb _ _ p) ∙ all_of_more e es h ∙ ap (both e) (sym (ap (λ k. least_of k es) q ∙ least_of_all es))

pub least_of_inner : (j : ℕ) (e : Term) (es : List Term) → (j ≡ 1 → ⊥) → (j ≡ suc (length es) → ⊥) → least_of j (e ∷ es) ≡ either (both e (least_of (j - 1) es)) (least_of j es)
least_of_inner j e es p q = cond-false _ _ _ (ne_eqb _ _ q) ∙ cond-false _ _ _ (ne_eqb _ _ p)
