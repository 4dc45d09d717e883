-- A list laid out in rows: each item lies in a row, each row and each list of rows lies in the grid's term.
use Rattle.std.proofs.Common.{◌≡◌, ℕ, zero, suc, ◌*◌, ◌/◌, ◌%◌, ◌≤◌, true, eqb, leb, List, [], ◌∷◌, map, length, take, drop, sym, refl, ap, ◌∙◌, subst, inl, inr, ⊎_elim, suc-mul, div-add-mod', zero-mul, arith, length-drop, take-append-drop}
use Rattle.interning.proofs.Members.{in_either}
use Rattle.std.proofs.lemmas.List.{length-take-le}
use Rattle.std.proofs.lemmas.Bool.{eqb-true, leb-true, and_parts}
use Rattle.rules.specs.declared.words.Head.{Head}
use Rattle.rules.specs.declared.words.Head.TheVariants.{All, Any, Least, Grid}
use Rattle.rules.specs.Rules.{cut, rows}
use Rattle.rules.specs.Reading.{fits, in_range}
use Rattle.rules.specs.Spelling.{Figure}
use Rattle.rules.specs.Terms.{Term, subterms, all_of, any_of, grid_of, expand_list}
use Rattle.rules.specs.Members.{◌∈◌, ◌⊆◌}
use Rattle.rules.proofs.Subterms.{both_left}
use Rattle.rules.proofs.Inside.{inside_all, inside_any, inside_least}

-- a figure is at least 1
pub figure_least : (limit v : ℕ) → in_range limit v ≡ true → 1 ≤ v
figure_least limit v h = leb-true 1 v (and_parts (leb 1 v) (leb v limit) h).0

pub rows_even : (n w : ℕ) → eqb (n % w) 0 ≡ true → n ≡ (n / w) * w
rows_even n w h = let p = eqb-true (n % w) 0 h in let q = div-add-mod' n w in omega arith

-- what is left after a row is as many rows, less one
pub drop_rows : {A : Type 0} (r w : ℕ) (xs : List A) → length xs ≡ suc r * w → length (drop w xs) ≡ r * w
drop_rows r w xs h = let p = length-drop w xs in let q = suc-mul r w in omega arith

pub take_row : {A : Type 0} (r w : ℕ) (xs : List A) → length xs ≡ suc r * w → length (take w xs) ≡ w
take_row r w xs h = let q = suc-mul r w in length-take-le w xs (omega arith)

pub in_map : {A B : Type 0} (f : A → B) (xs : List A) (x : A) → x ∈ xs → f x ∈ map f xs
in_map f [] x m = absurd m
in_map f (y ∷ xs) x m = ⊎_elim (λ e. inl (ap f e)) (λ n. inr (in_map f xs x n)) m

not_in_none : {A : Type 0} (x : A) (xs : List A) → length xs ≡ 0 → x ∈ xs → ⊥
not_in_none x [] h m = m
not_in_none x (y ∷ xs) h m = omega arith

-- a row, with an item of it
abbrev pub RowOf : {A : Type 0} → A → List (List A) → Type 0
RowOf {A} x xss = (row : List A) × (row ∈ xss) × (x ∈ row)

row_later : {A : Type 0} (x : A) (ys : List A) (xss : List (List A)) → RowOf x xss → RowOf x (ys ∷ xss)
row_later x ys xss r = (r.0, inr r.1, r.2)

in_cut : {A : Type 0} (r w : ℕ) (xs : List A) (x : A) → length xs ≡ r * w → x ∈ xs → RowOf x (cut r w xs)
in_cut zero w xs x h m = absurd (not_in_none x xs (h ∙ zero-mul w) m)
in_cut (suc r) w xs x h m =
    ⊎_elim (λ n. (take w xs, inl refl, n))
    (λ n. row_later x (take w xs) (cut r w (drop w xs)) (in_cut r w (drop w xs) x (drop_rows r w xs h) n))
    (in_either (take w xs) (drop w xs) x (subst (λ ys. x ∈ ys) (sym (take-append-drop w xs)) m))

pub in_rows : {A : Type 0} (w : ℕ) (xs : List A) (x : A) → eqb (length xs % w) 0 ≡ true → x ∈ xs → RowOf x (rows w xs)
in_rows w xs x h m = in_cut (length xs / w) w xs x (rows_even (length xs) w h) m

pub rows_all_inside : (w : ℕ) (es : List Term) → subterms (any_of (map all_of (rows w es))) ⊆ subterms (grid_of w es)
rows_all_inside w es = both_left (any_of (map all_of (rows w es))) (all_of (map any_of (rows w es)))

pub row_all_inside : (w : ℕ) (es row : List Term) → row ∈ rows w es → subterms (all_of row) ⊆ subterms (grid_of w es)
row_all_inside w es row m x k = rows_all_inside w es x (inside_any (map all_of (rows w es)) (all_of row) (in_map all_of (rows w es) row m) x k)

pub inside_grid : (w : ℕ) (es : List Term) (e : Term) → eqb (length es % w) 0 ≡ true → e ∈ es → subterms e ⊆ subterms (grid_of w es)
inside_grid w es e h m x k = let r = in_rows w es e h m in row_all_inside w es r.0 r.1 x (inside_all r.0 e r.2 x k)

pub items_inside : (h : Head) (es : List Term) (e : Term) → Figure h → 1 ≤ length es → fits h (length es) ≡ true → e ∈ es → subterms e ⊆ subterms (expand_list h es)
items_inside All es e f l t m = inside_all es e m
items_inside Any es e f l t m = inside_any es e m
items_inside (Least k) es e f l t m = inside_least k es e (figure_least 64 k f) (leb-true k (length es) t) m
items_inside (Grid w) es e f l t m = inside_grid w es e t m
