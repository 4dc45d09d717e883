-- The terms that a rule expands to.
use Rattle.std.specs.Prelude.{ℕ, suc, ◌-◌, Bool, false, cond, ◌&&◌, ◌||◌, List, [], ◌∷◌, ◌++◌, map, length, ◌==◌}
use Rattle.rules.specs.declared.words.Head.{Head}
use Rattle.rules.specs.declared.words.Head.TheVariants.{All, Any, Least, Grid}
use Rattle.rules.specs.Rules.{Rule, Items, none, item, list, Group, rows}

pub data Term : Type 0 where
  member : ℕ → Term
  both either : Term → Term → Term

abbrev pub term_passes : Term → Group → Bool
term_passes (member v) g = g v
term_passes (both s t) g = term_passes s g && term_passes t g
term_passes (either s t) g = term_passes s g || term_passes t g

-- stands where a list has no item, which is in no rule that is let in
abbrev pub blank : Term
blank = member 0

abbrev pub all_of : List Term → Term
all_of [] = blank
all_of (e ∷ []) = e
all_of (e ∷ f ∷ es) = both e (all_of (f ∷ es))

abbrev pub any_of : List Term → Term
any_of [] = blank
any_of (e ∷ []) = e
any_of (e ∷ f ∷ es) = either e (any_of (f ∷ es))

-- least k of m: all where k is m, any where k is 1; else the first with k − 1 of the rest, or k of the rest
abbrev pub least_of : ℕ → List Term → Term
least_of k [] = blank
least_of k (e ∷ es) =
    cond (k == suc (length es)) (all_of (e ∷ es))
    (cond (k == 1) (any_of (e ∷ es)) (either (both e (least_of (k - 1) es)) (least_of k es)))

-- some row whole, and some item of every row
abbrev pub grid_of : ℕ → List Term → Term
grid_of w es = both (any_of (map all_of (rows w es))) (all_of (map any_of (rows w es)))

abbrev pub expand_list : Head → List Term → Term
expand_list All es = all_of es
expand_list Any es = any_of es
expand_list (Least k) es = least_of k es
expand_list (Grid w) es = grid_of w es

abbrev mutual
  pub expand : Rule → Term
  expand (Rule.member v) = member v
  expand (list h is) = expand_list h (expanded is)

  pub expanded : Items → List Term
  expanded none = []
  expanded (item r is) = expand r ∷ expanded is

-- a term with all terms in it
abbrev pub subterms : Term → List Term
subterms (member v) = member v ∷ []
subterms (both s t) = both s t ∷ (subterms s ++ subterms t)
subterms (either s t) = either s t ∷ (subterms s ++ subterms t)

-- whether two terms are the same
abbrev pub same : Term → Term → Bool
same (member v) (member w) = v == w
same (member v) (both s t) = false
same (member v) (either s t) = false
same (both s t) (member w) = false
same (both s t) (both u v) = same s u && same t v
same (both s t) (either u v) = false
same (either s t) (member w) = false
same (either s t) (both u v) = false
same (either s t) (either u v) = same s u && same t v
