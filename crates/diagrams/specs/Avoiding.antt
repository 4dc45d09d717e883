-- The groups of a diagram that share no member with a given group.
use Rattle.std.specs.Prelude.{◌≡◌, ℕ, ◌<◌, ◌≤◌, Bool, true, false, cond, List, [], ◌∷◌, length, Some, None, Ok, Err, Option, Result, ◌==◌, bit_and}
use Rattle.memos.specs.declared.diagram.Diagram.{Diagram}
use Rattle.families.specs.Trees.{Tree, groups}
use Rattle.diagrams.specs.declared.nodes.TooFewCells.{TooFewCells}
use Rattle.diagrams.specs.Building.{Denotes}

-- g and n have no bit in common; where n is the number of a group, they share no member
abbrev pub apart : ℕ → ℕ → Bool
apart g n = bit_and g n == 0

-- the first of a list that shares no member with g, or none
abbrev pub first_avoiding : ℕ → List ℕ → Option ℕ
first_avoiding g [] = None
first_avoiding g (n ∷ ns) = cond (apart g n) (Some n) (first_avoiding g ns)

-- there is one
abbrev pub found : Option ℕ → Bool
found (Some n) = true
found None = false

-- whether a tree has a group that shares no member with g
abbrev pub has_avoiding : ℕ → Tree → Bool
has_avoiding g t = found (first_avoiding g (groups t))

-- the first group of a diagram of the trees ts that shares no member with g, refused where there are fewer cells than trees
abbrev pub Avoided : ℕ → List Tree → Diagram → ℕ → Result (Option ℕ) TooFewCells → Type 0
Avoided cells ts d g (Ok o) = (length ts ≤ cells) × ((t : Tree) → Denotes ts d t → o ≡ first_avoiding g (groups t))
Avoided cells ts d g (Err e) = cells < length ts
