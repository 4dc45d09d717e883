-- Throwing out: what given roots reach, and what is held when everything else is thrown out.
use Rattle.std.specs.Prelude.{◌≡◌, ℕ, ◌<◌, ◌≤◌, Bool, true, false, List, [], ◌∷◌, ◌++◌, length, map, Some, None, Ok, Err, Option, Result, cond, is_some, nat_lt, slice_index_or, slice_set}
use Rattle.interning.specs.Distinct.{◌∈◌, Within}
use Rattle.interning.specs.Places.{Stands}
use Rattle.memos.specs.declared.diagram.Diagram.{Diagram}
use Rattle.memos.specs.declared.diagram.View.{View}
use Rattle.memos.specs.declared.diagram.View.TheVariants.{None as Never, Always, Node as Place}
use Rattle.memos.specs.Diagrams.{seen}
use Rattle.families.specs.Trees.{Tree, none, always, node}
use Rattle.diagrams.specs.declared.node.Node.{Node}
use Rattle.diagrams.specs.declared.nodes.Cell.{Cell}
use Rattle.diagrams.specs.declared.nodes.TooFewCells.{TooFewCells}
use Rattle.diagrams.specs.NodeKeys.{Below, tree_at}
use Rattle.diagrams.specs.Building.{Denotes}

-- the nodes in a tree, itself included
abbrev pub nodes_in : Tree → List Tree
nodes_in none = []
nodes_in always = []
nodes_in (node v l h) = node v l h ∷ (nodes_in l ++ nodes_in h)

-- the nodes in the trees of the roots
abbrev pub reached : List Tree → List Diagram → List Tree
reached ts [] = []
reached ts (d ∷ ds) = nodes_in (tree_at ts d) ++ reached ts ds

-- Every root keeps its tree, and exactly the nodes in the trees of the roots are held.
pub record Collected (ts : List Tree) (roots : List Diagram) (ts' : List Tree) (roots' : List Diagram) : Type 0 where
  pub kept : (i : ℕ) (d : Diagram) (t : Tree) → i < length roots → Denotes ts (slice_index_or roots i d) t → Denotes ts' (slice_index_or roots' i d) t
  pub only : Within ts' (reached ts roots)
  pub all : Within (reached ts roots) ts'

-- a cell of which nothing is kept
abbrev pub blank : Cell
blank = record { node = None; moved = record { code = 0 } }

-- the nodes that cells keep, and the names that they tell
abbrev pub copies : List Cell → List (Option Node)
copies cs = map (λ c. c.node) cs

abbrev pub moves : List Cell → List Diagram
moves cs = map (λ c. c.moved) cs

-- a place is marked if its cell keeps a node
abbrev pub marks : List Cell → List Bool
marks cs = map (λ c. is_some c.node) cs

-- the place p is marked
abbrev pub Marked : List Bool → ℕ → Type 0
Marked bs p = slice_index_or bs p false ≡ true

-- the place that a name has, if any, is marked
abbrev pub Marks : List Bool → View → Type 0
Marks bs Never = Unit {0}
Marks bs Always = Unit {0}
Marks bs (Place p) = Marked bs p

-- the marks with that of a name set, if its place is one of the first n
abbrev pub marked_by : ℕ → List Bool → View → List Bool
marked_by n bs Never = bs
marked_by n bs Always = bs
marked_by n bs (Place p) = cond (nat_lt p n) (slice_set bs p true) bs

-- only places are marked whose trees are among those reached
abbrev pub Sparing : List Tree → List Diagram → List Bool → Type 0
Sparing ts roots bs = (p : ℕ) → p < length ts → Marked bs p → slice_index_or ts p none ∈ reached ts roots

-- the first n roots, as far as they are held, are marked
abbrev pub Covers : List Tree → List Diagram → ℕ → List Bool → Type 0
Covers ts roots n bs = (i : ℕ) (d : Diagram) → i < n → Below (length ts) (seen (slice_index_or roots i d)) → Marks bs (seen (slice_index_or roots i d))

-- with a place from n on, the parts of its node are marked
abbrev pub ClosedFrom : List Node → ℕ → List Bool → Type 0
ClosedFrom ks n bs = (p : ℕ) (d : Node) → n ≤ p → p < length ks → Marked bs p → Marks bs (seen (slice_index_or ks p d).low) × Marks bs (seen (slice_index_or ks p d).high)

-- what is kept of a place is the node that stands there
abbrev pub Copied : List Node → List (Option Node) → Type 0
Copied ks os = (p : ℕ) (k : Node) → p < length ks → slice_index_or os p None ≡ Some k → Stands ks k p

-- the name under which a diagram goes after its place has moved
abbrev pub moved_as : List Diagram → Diagram → View → Diagram
moved_as ms d Never = d
moved_as ms d Always = d
moved_as ms d (Place p) = slice_index_or ms p d

-- of the first n places those that are marked were moved to ts', and nothing else is there
pub record Moved (ts : List Tree) (bs : List Bool) (n : ℕ) (ts' : List Tree) (ms : List Diagram) : Type 0 where
  pub there : (p : ℕ) (d : Diagram) → p < n → Marked bs p → Denotes ts' (slice_index_or ms p d) (slice_index_or ts p none)
  pub only : (t : Tree) → t ∈ ts' → (p : ℕ) × (p < n) × Marked bs p × (slice_index_or ts p none ≡ t)

-- Where there are cells enough everything that no root reaches is thrown out, and else nothing is done.
abbrev pub ThrownOut : ℕ → List Tree → List Diagram → List Tree → List Diagram → Result (Unit {0}) TooFewCells → Type 0
ThrownOut cells ts roots ts' roots' (Ok u) = (length ts ≤ cells) × Collected ts roots ts' roots'
ThrownOut cells ts roots ts' roots' (Err e) = (cells < length ts) × (ts' ≡ ts) × (roots' ≡ roots)
