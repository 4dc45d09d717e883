-- The term of a rule passes the groups that the rule passes.
use Rattle.std.proofs.Common.{◌≡◌, ℕ, zero, suc, ◌-◌, ◌*◌, ◌/◌, ◌≤◌, Bool, true, false, cond, ◌&&◌, ◌||◌, eqb, leb, List, [], ◌∷◌, map, length, take, drop, sym, refl, ap, ◌∙◌, ap₂, not-suc-le-zero, zero-mul, arith}
use lib.ListN.{length-map}
use Rattle.std.proofs.lemmas.List.{take-map, drop-map}
use Rattle.std.proofs.lemmas.Bool.{cond_both, eqb-true, eqb-false, leb-true}
use Rattle.std.proofs.lemmas.Bool.Decides.{nat_tests}
use Rattle.rules.specs.declared.words.Head.{Head}
use Rattle.rules.specs.declared.words.Head.TheVariants.{All, Any, Least, Grid}
use Rattle.rules.specs.Rules.{Rule, Items, member, list, none, item, Group, every, some, count, cut, rows, passes_list, passes, passed}
use Rattle.rules.specs.Reading.{fits}
use Rattle.rules.specs.Spelling.{Figure, InOrder, AllInOrder, size}
use Rattle.rules.specs.Terms.{Term, both, either, term_passes, all_of, any_of, least_of, grid_of, expand_list, expand, expanded}
use Rattle.rules.specs.Laws.{ExpansionPasses}
use Rattle.rules.proofs.Grid.{figure_least, rows_even, take_row, drop_rows}

-- which of the terms pass
abbrev tests : Group → List Term → List Bool
tests g es = map (λ e. term_passes e g) es

and_true : (b : Bool) → b ≡ (b && true)
and_true true = refl
and_true false = refl

or_false : (b : Bool) → b ≡ (b || false)
or_false true = refl
or_false false = refl

passes_all_of : (g : Group) (es : List Term) → 1 ≤ length es → term_passes (all_of es) g ≡ every (tests g es)
passes_all_of g [] h = absurd (not-suc-le-zero h)
passes_all_of g (e ∷ []) h = and_true (term_passes e g)
passes_all_of g (e ∷ f ∷ es) h = ap (λ b. term_passes e g && b) (passes_all_of g (f ∷ es) (omega arith))

passes_any_of : (g : Group) (es : List Term) → 1 ≤ length es → term_passes (any_of es) g ≡ some (tests g es)
passes_any_of g [] h = absurd (not-suc-le-zero h)
passes_any_of g (e ∷ []) h = or_false (term_passes e g)
passes_any_of g (e ∷ f ∷ es) h = ap (λ b. term_passes e g || b) (passes_any_of g (f ∷ es) (omega arith))

count_most : (bs : List Bool) → count bs ≤ length bs
count_most [] = omega arith
count_most (true ∷ bs) = let h = count_most bs in omega arith
count_most (false ∷ bs) = let h = count_most bs in omega arith

every_counted : (bs : List Bool) → every bs ≡ leb (length bs) (count bs)
every_counted [] = refl
every_counted (true ∷ bs) = let h = every_counted bs in grind (arith, nat_tests)
every_counted (false ∷ bs) = let h = count_most bs in grind (arith, nat_tests)

some_counted : (bs : List Bool) → some bs ≡ leb 1 (count bs)
some_counted [] = refl
some_counted (true ∷ bs) = grind (arith, nat_tests)
some_counted (false ∷ bs) = some_counted bs

-- at least k with one more: with it k − 1 of the rest do
count_step : (k : ℕ) (b : Bool) (c : ℕ) → 1 ≤ k → ((b && leb (k - 1) c) || leb k c) ≡ leb k (cond b (suc c) c)
count_step k true c h = grind (arith, nat_tests)
count_step k false c h = refl

least_whole : (g : Group) (k : ℕ) (es : List Term) → 1 ≤ length es → k ≡ length es → term_passes (all_of es) g ≡ leb k (count (tests g es))
least_whole g k es h p = passes_all_of g es h ∙ every_counted (tests g es) ∙ ap (λ n. leb n (count (tests g es))) (length-map es (λ e. term_passes e g) ∙ sym p)

least_one : (g : Group) (k : ℕ) (es : List Term) → 1 ≤ length es → k ≡ 1 → term_passes (any_of es) g ≡ leb k (count (tests g es))
least_one g k es h p = passes_any_of g es h ∙ some_counted (tests g es) ∙ ap (λ n. leb n (count (tests g es))) (sym p)

passes_least_of : (g : Group) (k : ℕ) (es : List Term) → 1 ≤ k → k ≤ length es → term_passes (least_of k es) g ≡ leb k (count (tests g es))
passes_least_of g k [] a b = absurd (omega arith)
passes_least_of g k (e ∷ es) a b =
    cond_both (eqb k (suc (length es))) (all_of (e ∷ es)) (cond (eqb k 1) (any_of (e ∷ es)) (either (both e (least_of (k - 1) es)) (least_of k es))) (λ t. term_passes t g ≡ leb k (count (tests g (e ∷ es))))
    (λ p. least_whole g k (e ∷ es) (omega arith) (eqb-true k (suc (length es)) p))
    (λ p. cond_both (eqb k 1) (any_of (e ∷ es)) (either (both e (least_of (k - 1) es)) (least_of k es)) (λ t. term_passes t g ≡ leb k (count (tests g (e ∷ es))))
    (λ q. least_one g k (e ∷ es) (omega arith) (eqb-true k 1 q))
    (λ q.
    ap₂ (λ x y. (term_passes e g && x) || y) (passes_least_of g (k - 1) es (omega (arith, eqb-false k 1 q)) (omega arith)) (passes_least_of g k es a (omega (arith, eqb-false k (suc (length es)) p)))
    ∙ count_step k (term_passes e g) (count (tests g es)) a))

map_cut : (g : Group) (r w : ℕ) (es : List Term) → map (tests g) (cut r w es) ≡ cut r w (tests g es)
map_cut g zero w es = refl
map_cut g (suc r) w es = ap₂ (λ x y. x ∷ y) (sym (take-map (λ e. term_passes e g) w es)) (map_cut g r w (drop w es) ∙ ap (cut r w) (sym (drop-map (λ e. term_passes e g) w es)))

map_rows : (g : Group) (w : ℕ) (es : List Term) → map (tests g) (rows w es) ≡ rows w (tests g es)
map_rows g w es = map_cut g (length es / w) w es ∙ ap (λ n. cut (n / w) w (tests g es)) (sym (length-map es (λ e. term_passes e g)))

-- rows of w items each, and w is not 0
all_rows : (g : Group) (r w : ℕ) (es : List Term) → 1 ≤ w → length es ≡ r * w → tests g (map all_of (cut r w es)) ≡ map every (map (tests g) (cut r w es))
all_rows g zero w es h p = refl
all_rows g (suc r) w es h p =
    let q = take_row r w es p in
    ap₂ (λ x y. x ∷ y) (passes_all_of g (take w es) (omega arith)) (all_rows g r w (drop w es) h (drop_rows r w es p))

any_rows : (g : Group) (r w : ℕ) (es : List Term) → 1 ≤ w → length es ≡ r * w → tests g (map any_of (cut r w es)) ≡ map some (map (tests g) (cut r w es))
any_rows g zero w es h p = refl
any_rows g (suc r) w es h p =
    let q = take_row r w es p in
    ap₂ (λ x y. x ∷ y) (passes_any_of g (take w es) (omega arith)) (any_rows g r w (drop w es) h (drop_rows r w es p))

length_cut : {A : Type 0} (r w : ℕ) (xs : List A) → length (cut r w xs) ≡ r
length_cut zero w xs = refl
length_cut (suc r) w xs = ap suc (length_cut r w (drop w xs))

-- a list with an item has a row
some_row : (n w : ℕ) → 1 ≤ n → n ≡ (n / w) * w → 1 ≤ n / w
some_row n w h p = go (n / w) p
  where
    go : (r : ℕ) → n ≡ r * w → 1 ≤ r
    go zero q = let z = zero-mul w in omega arith
    go (suc r) q = omega arith

passes_grid_of : (g : Group) (w : ℕ) (es : List Term) → 1 ≤ w → 1 ≤ length es → length es ≡ (length es / w) * w → term_passes (grid_of w es) g ≡ passes_list (Grid w) (tests g es)
passes_grid_of g w es h l p =
    let r = length_cut (length es / w) w es in
    let s = some_row (length es) w l p in
    let a = length-map (rows w es) all_of in
    let b = length-map (rows w es) any_of in
    ap₂ (λ x y. x && y)
    (passes_any_of g (map all_of (rows w es)) (omega arith) ∙ ap some (all_rows g (length es / w) w es h p ∙ ap (map every) (map_rows g w es)))
    (passes_all_of g (map any_of (rows w es)) (omega arith) ∙ ap every (any_rows g (length es / w) w es h p ∙ ap (map some) (map_rows g w es)))

pub passes_expand_list : (g : Group) (h : Head) (es : List Term) → Figure h → 1 ≤ length es → fits h (length es) ≡ true → term_passes (expand_list h es) g ≡ passes_list h (tests g es)
passes_expand_list g All es f l t = passes_all_of g es l
passes_expand_list g Any es f l t = passes_any_of g es l
passes_expand_list g (Least k) es f l t = passes_least_of g k es (figure_least 64 k f) (leb-true k (length es) t)
passes_expand_list g (Grid w) es f l t = passes_grid_of g w es (figure_least 64 w f) l (rows_even (length es) w t)

pub length_expanded : (is : Items) → length (expanded is) ≡ size is
length_expanded none = refl
length_expanded (item r is) = ap suc (length_expanded is)

mutual
  expanded_passes : (n d : ℕ) (is : Items) (g : Group) → AllInOrder n d is → tests g (expanded is) ≡ passed is g
  expanded_passes n d none g o = refl
  expanded_passes n d (item r is) g o = ap₂ (λ x y. x ∷ y) (expand_passes n d r g o.0) (expanded_passes n d is g o.1)

  expand_passes : (n d : ℕ) (r : Rule) (g : Group) → InOrder n d r → term_passes (expand r) g ≡ passes r g
  expand_passes n d (member v) g o = refl
  expand_passes n d (list h is) g o =
      let l = length_expanded is in
      let s = o.2 in
      passes_expand_list g h (expanded is) o.1 (omega arith) (ap (fits h) l ∙ o.4) ∙ ap (passes_list h) (expanded_passes n (suc d) is g o.5)

pub expansion_passes : ExpansionPasses
expansion_passes n d r g o = expand_passes n d r g o
