-- To be the tree of a family is a proposition, so it can be taken out of a truncation.
use Rattle.std.proofs.Common.{◌≡◌, ℕ, suc, false, List, [], ◌∷◌, get_or, refl}
use mathlib.Core.HLevel.{×_prop}
use mathlib.Core.Bool.{Bool-set}
use mathlib.Core.Logic.{∥∥₁_elim}
use native.Mathlib.Bridge.{le_prop}
use Rattle.std.specs.List.{AllByRecursion}
use Rattle.interning.specs.Places.{Each}
use Rattle.families.specs.Groups.{holds}
use Rattle.families.specs.Trees.{Tree, none, always, node, passes, groups, is_none, is_always}
use Rattle.families.specs.Good.{Good, Proper}

all_prop : (P : ℕ → Type 0) → ((n : ℕ) → IsProp (P n)) → (ns : List ℕ) → IsProp (AllByRecursion P ns)
all_prop P p [] = λ x y. refl
all_prop P p (n ∷ ns) = ×_prop (p n) (all_prop P p ns)

pub good_prop : (b : ℕ) (t : Tree) → IsProp (Good b t)
good_prop b none = λ x y. refl
good_prop b always = λ x y. refl
good_prop b (node v l h) = λ x y i. record {
  fits = ×_prop le_prop (×_prop le_prop le_prop) x.fits y.fits i;
  low = good_prop (suc v) l x.low y.low i;
  high = good_prop (suc v) h x.high y.high i;
  some = Bool-set (is_none h) false x.some y.some i;
  apart = all_prop (λ n. passes l (holds n) ≡ false) (λ n. Bool-set (passes l (holds n)) false) (groups h) x.apart y.apart i;
}

pub proper_prop : (t : Tree) → IsProp (Proper t)
proper_prop t x y i = record {
  good = good_prop 1 t x.good y.good i;
  some = Bool-set (is_none t) false x.some y.some i;
  more = Bool-set (is_always t) false x.more y.more i;
}

pub each_out : (ts : List Tree) → ∥ Each Proper ts ∥₁ → Each Proper ts
each_out ts t i d l = ∥∥₁_elim t (proper_prop (get_or ts i d)) (λ e. e i d l)
