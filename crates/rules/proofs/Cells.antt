-- The cells of the table that `least k` is made from: what each is made of, and a row that is written from its last cell to its first.
use Rattle.std.proofs.Common.{◌≡◌, ℕ, suc, ◌+◌, ◌-◌, ◌<◌, ◌≤◌, ◌≢◌, List, ◌∷◌, length, get_or, set, sym, subst, ⊎_elim, arith}
use Rattle.std.proofs.lemmas.List.{get_or-set_same, get_or-set_other}
use Rattle.std.proofs.lemmas.Bool.{cases_eq}
use Rattle.rules.specs.Building.{Held, At, Adds, Makes}
use Rattle.rules.specs.Expanding.{Beside, Row, Filled}
use Rattle.rules.specs.Members.{◌⊆◌}
use Rattle.rules.specs.Terms.{Term, both, either, subterms, least_of}
use Rattle.rules.proofs.LeastOf.{least_of_one, least_of_whole, least_of_inner}
use Rattle.rules.proofs.Making.{makes_then, makes_adds, adds_none, adds_then}
use Rattle.rules.proofs.Subterms.{either_left}

pub cell_whole : {h h' : Held} {r : ℕ} (j : ℕ) (e : Term) (es : List Term) → 1 ≤ length es → j ≡ suc (length es) → Makes h h' r (both e (least_of (j - 1) es)) → Makes h h' r (least_of j (e ∷ es))
cell_whole {h} {h'} {r} j e es l q m = subst (λ t. Makes h h' r t) (sym (least_of_whole j e es l q)) m

pub cell_one : {h h' : Held} {r : ℕ} (j : ℕ) (e : Term) (es : List Term) → 1 ≤ length es → j ≡ 1 → Makes h h' r (either e (least_of j es)) → Makes h h' r (least_of j (e ∷ es))
cell_one {h} {h'} {r} j e es l q =
    subst (λ n. Makes h h' r (either e (least_of n es)) → Makes h h' r (least_of n (e ∷ es))) (sym q) (λ m. subst (λ t. Makes h h' r t) (sym (least_of_one e es l)) m)

pub cell_inner : {h h' h'' : Held} {p r : ℕ} (j : ℕ) (e : Term) (es : List Term) → (j ≡ 1 → ⊥) → (j ≡ suc (length es) → ⊥) → Makes h h' p (both e (least_of (j - 1) es)) → Makes h' h'' r (either (both e (least_of (j - 1) es)) (least_of j es)) → Makes h h'' r (least_of j (e ∷ es))
cell_inner {h} {h'} {h''} {p} {r} j e es a b m n =
    subst (λ t. Makes h h'' r t) (sym (least_of_inner j e es a b)) (makes_then (either_left (both e (least_of (j - 1) es)) (least_of j es)) m n)

pub filled_none : {h : Held} {us : List Term} (cells : List ℕ) (a b : ℕ) (es : List Term) → ((j : ℕ) → 1 ≤ j → a ≤ j → j ≤ b → j ≤ length es → ⊥) → Filled h h cells a b es us
filled_none {h} {us} cells a b es none = record { adds = adds_none; row = λ j low from to within. absurd (none j low from to within) }

pub row_kept : {h h' : Held} {us : List Term} (cells : List ℕ) (a b : ℕ) (es : List Term) → Adds h h' us → Row h cells a b es → Row h' cells a b es
row_kept cells a b es k r j low from to within = k.kept (get_or cells j 0) (least_of j es) (r j low from to within)

pub beside_from_row : {h : Held} (cells : List ℕ) (item a x : ℕ) (e : Term) (es : List Term) → 1 ≤ a → a ≤ x → x ≤ suc (length es) → At h item e → Row h cells (a - 1) x es → Beside h x item (get_or cells (x - 1) 0) (get_or cells x 0) e es
beside_from_row {h} cells item a x e es low from to s r =
    record { first = s; below = λ k. r (x - 1) (omega arith) (omega arith) (omega arith) (omega arith); beside = λ k f. r x (omega arith) (omega arith) (omega arith) k f }

-- a cell is written: the cells before it stay, and it joins those after it
pub row_less : (h : Held) (cells : List ℕ) (a x p : ℕ) (es : List Term) → Row h cells a x es → Row h (set cells x p) a (x - 1) es
row_less h cells a x p es r j low from to within =
    let other : j ≢ x = omega arith in
    subst (λ q. At h q (least_of j es)) (sym (get_or-set_other cells x j p 0 other)) (r j low from (omega arith) within)

pub row_more : (h : Held) (cells : List ℕ) (a x b p : ℕ) (es : List Term) → x < length cells → a ≤ x + 1 → At h p (least_of x es) → Row h cells a b es → Row h (set cells x p) x b es
row_more h cells a x b p es l n s r j low from to within =
    ⊎_elim (λ (q : j ≡ x). subst (λ y. At h (get_or (set cells x p) y 0) (least_of y es)) (sym q) (subst (λ y. At h y (least_of x es)) (sym (get_or-set_same cells x p 0 l)) s))
    (λ (q : j ≡ x → ⊥). subst (λ y. At h y (least_of j es)) (sym (get_or-set_other cells x j p 0 q)) (r j low (omega arith) to within))
    (cases_eq j x)

pub filled_more : {h h' h'' : Held} {us : List Term} (cells : List ℕ) (a x b p : ℕ) (es : List Term) → x < length cells → a ≤ x + 1 → subterms (least_of x es) ⊆ us → Makes h' h'' p (least_of x es) → Filled h h' cells a b es us → Filled h h'' (set cells x p) x b es us
filled_more {h} {h'} {h''} {us} cells a x b p es l n s m f =
    record {
      adds = adds_then f.adds (makes_adds s m);
      row = row_more h'' cells a x b p es l n m.at (row_kept cells a b es m.adds f.row);
    }
