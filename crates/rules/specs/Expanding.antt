-- The table that `least k` is made from: a row for the items from one on, and in it a cell for each count.
use Rattle.std.specs.Prelude.{ℕ, ◌-◌, ◌<◌, ◌≤◌, List, ◌∷◌, map, length, slice_index}
use Rattle.rules.specs.Building.{Held, At, Adds}
use Rattle.rules.specs.Members.{◌⊆◌}
use Rattle.rules.specs.Rules.{rows}
use Rattle.rules.specs.Terms.{Term, subterms, least_of}

-- an item stands at its place, and of the items after it `least j - 1` and `least j`, where there are such
pub record Beside (h : Held) (j item fewer level : ℕ) (e : Term) (es : List Term) : Type 0 where
  pub first : At h item e
  pub below : 1 < j → At h fewer (least_of (j - 1) es)
  pub beside : j ≤ length es → At h level (least_of j es)

-- the cells of a row from a to b: `least j` of the items stands at the place in the cell j
abbrev pub Row : Held → List ℕ → ℕ → ℕ → List Term → Type 0
Row h cells a b es = (j : ℕ) → 1 ≤ j → a ≤ j → j ≤ b → j ≤ length es → At h (slice_index cells j) (least_of j es)

-- the row of the items after e is there, and the terms of the next row are terms of us
pub record Ready (h : Held) (cells : List ℕ) (item a b : ℕ) (e : Term) (es us : List Term) : Type 0 where
  pub first : At h item e
  pub after : Row h cells (a - 1) b es
  pub wanted : (j : ℕ) → a ≤ j → j ≤ b → subterms (least_of j (e ∷ es)) ⊆ us

-- the row of the items is there, and terms of us alone were added
pub record Filled (h h' : Held) (cells : List ℕ) (a b : ℕ) (es us : List Term) : Type 0 where
  pub adds : Adds h h' us
  pub row : Row h' cells a b es

-- the rows of w items, each as `least k` of its items
abbrev pub parts : ℕ → ℕ → List Term → List Term
parts w k es = map (least_of k) (rows w es)
