-- The number of groups of a diagram.
use Rattle.std.specs.Prelude.{◌≡◌, ℕ, ◌<◌, ◌≤◌, List, length, Ok, Err, Result}
use Rattle.memos.specs.declared.diagram.Diagram.{Diagram}
use Rattle.families.specs.Trees.{Tree, groups}
use Rattle.diagrams.specs.declared.nodes.TooFewCells.{TooFewCells}
use Rattle.diagrams.specs.Building.{Denotes}

-- the number of groups of a diagram of the trees ts, refused where there are fewer cells than trees
abbrev pub Counted : ℕ → List Tree → Diagram → Result ℕ TooFewCells → Type 0
Counted cells ts d (Ok n) = (length ts ≤ cells) × ((t : Tree) → Denotes ts d t → n ≡ length (groups t))
Counted cells ts d (Err e) = cells < length ts
