-- A rule in order expands to a term whose members are all from 1 to n.
use Rattle.std.proofs.Common.{◌≡◌, ℕ, zero, suc, ◌-◌, ◌*◌, ◌/◌, ◌≤◌, true, cond, eqb, leb, List, [], ◌∷◌, map, length, take, drop, ap, ◌∙◌, zero-mul, arith}
use Rattle.std.specs.List.{AllByRecursion}
use Rattle.std.proofs.ByRecursion.{All-take, All-drop}
use Rattle.std.proofs.lemmas.Bool.{and_parts, cond_both, eqb-false, leb-true}
use Rattle.rules.specs.declared.words.Head.{Head}
use Rattle.rules.specs.declared.words.Head.TheVariants as head
use Rattle.rules.specs.Rules as rule
use Rattle.rules.specs.Rules.{cut}
use Rattle.rules.specs.Reading.{fits}
use Rattle.rules.specs.Spelling.{Figure, InOrder, AllInOrder}
use Rattle.rules.specs.Terms.{Term, member, both, either, all_of, any_of, least_of, expand_list, expand, expanded}
use Rattle.rules.proofs.Grid.{figure_least, rows_even, take_row, drop_rows}
use Rattle.rules.proofs.Expansion.{length_expanded}

module _ (n : ℕ) where
  -- every member of the term is from 1 to n
  abbrev pub Ranges : Term → Type 0
  Ranges (member v) = (1 ≤ v) × (v ≤ n)
  Ranges (both s t) = Ranges s × Ranges t
  Ranges (either s t) = Ranges s × Ranges t

  all_of_ranges : (es : List Term) → 1 ≤ length es → AllByRecursion Ranges es → Ranges (all_of es)
  all_of_ranges [] l a = absurd (omega arith)
  all_of_ranges (e ∷ []) l a = a.0
  all_of_ranges (e ∷ f ∷ es) l a = (a.0, all_of_ranges (f ∷ es) (omega arith) a.1)

  any_of_ranges : (es : List Term) → 1 ≤ length es → AllByRecursion Ranges es → Ranges (any_of es)
  any_of_ranges [] l a = absurd (omega arith)
  any_of_ranges (e ∷ []) l a = a.0
  any_of_ranges (e ∷ f ∷ es) l a = (a.0, any_of_ranges (f ∷ es) (omega arith) a.1)

  least_of_ranges : (k : ℕ) (es : List Term) → 1 ≤ k → k ≤ length es → AllByRecursion Ranges es → Ranges (least_of k es)
  least_of_ranges k [] l m a = absurd (omega arith)
  least_of_ranges k (e ∷ es) l m a =
      cond_both (eqb k (suc (length es))) (all_of (e ∷ es)) (cond (eqb k 1) (any_of (e ∷ es)) (either (both e (least_of (k - 1) es)) (least_of k es))) Ranges
      (λ p. all_of_ranges (e ∷ es) (omega arith) a)
      (λ p. cond_both (eqb k 1) (any_of (e ∷ es)) (either (both e (least_of (k - 1) es)) (least_of k es)) Ranges
      (λ q. any_of_ranges (e ∷ es) (omega arith) a)
      (λ q. ((a.0, least_of_ranges (k - 1) es (omega (arith, eqb-false k 1 q)) (omega arith) a.1), least_of_ranges k es l (omega (arith, eqb-false k (suc (length es)) p)) a.1)))

  -- rows of w items each, and w is not 0
  rows_range : (f : List Term → Term) → ((es : List Term) → 1 ≤ length es → AllByRecursion Ranges es → Ranges (f es)) → (r w : ℕ) (es : List Term) → 1 ≤ w → length es ≡ r * w → AllByRecursion Ranges es → AllByRecursion Ranges (map f (cut r w es))
  rows_range f h zero w es l p a = tt
  rows_range f h (suc r) w es l p a =
      let q = take_row r w es p in
      (h (take w es) (omega arith) (All-take Ranges w es a), rows_range f h r w (drop w es) l (drop_rows r w es p) (All-drop Ranges w es a))

  grid_ranges : (r w : ℕ) (es : List Term) → 1 ≤ w → 1 ≤ length es → length es ≡ r * w → AllByRecursion Ranges es → Ranges (both (any_of (map all_of (cut r w es))) (all_of (map any_of (cut r w es))))
  grid_ranges zero w es l m p a = let z = zero-mul w in absurd (omega arith)
  grid_ranges (suc r) w es l m p a = (
    any_of_ranges (map all_of (cut (suc r) w es)) (omega arith) (rows_range all_of all_of_ranges (suc r) w es l p a),
    all_of_ranges (map any_of (cut (suc r) w es)) (omega arith) (rows_range any_of any_of_ranges (suc r) w es l p a),
  )

  expand_list_ranges : (h : Head) (es : List Term) → Figure h → 1 ≤ length es → fits h (length es) ≡ true → AllByRecursion Ranges es → Ranges (expand_list h es)
  expand_list_ranges head.All es f l t a = all_of_ranges es l a
  expand_list_ranges head.Any es f l t a = any_of_ranges es l a
  expand_list_ranges (head.Least k) es f l t a = least_of_ranges k es (figure_least 64 k f) (leb-true k (length es) t) a
  expand_list_ranges (head.Grid w) es f l t a = grid_ranges (length es / w) w es (figure_least 64 w f) l (rows_even (length es) w t) a

  mutual
    expanded_range : (d : ℕ) (is : rule.Items) → AllInOrder n d is → AllByRecursion Ranges (expanded is)
    expanded_range d rule.none o = tt
    expanded_range d (rule.item r is) o = (expand_ranges d r o.0, expanded_range d is o.1)

    pub expand_ranges : (d : ℕ) (r : rule.Rule) → InOrder n d r → Ranges (expand r)
    expand_ranges d (rule.member v) o = let p = and_parts (leb 1 v) (leb v n) o in (leb-true 1 v p.0, leb-true v n p.1)
    expand_ranges d (rule.list h is) o =
        let l = length_expanded is in
        let s = o.2 in
        expand_list_ranges h (expanded is) o.1 (omega arith) (ap (fits h) l ∙ o.4) (expanded_range (suc d) is o.5)
