-- Nodes over the places of other nodes: the hash of such keys, and the trees that they stand for.
use Rattle.std.specs.Prelude.{ℕ, ◌+◌, ◌%◌, ◌^◌, ◌<◌, List, slice_index_or}
use Rattle.interning.specs.Hash.{mixed, finished}
use Rattle.memos.specs.declared.diagram.Diagram.{Diagram}
use Rattle.memos.specs.declared.diagram.View.{View}
use Rattle.memos.specs.declared.diagram.View.TheVariants.{None, Always, Node as Placed}
use Rattle.memos.specs.Diagrams.{seen}
use Rattle.families.specs.Trees.{Tree, none, always, node}
use Rattle.diagrams.specs.declared.node.Node.{Node}

-- the word of a name in a hash
abbrev pub word : View → ℕ
word None = 0
word Always = 1
word (Placed place) = (place + 2) % 2 ^ 32

-- the hash of a node
abbrev pub node_mark : Node → ℕ
node_mark n = finished (mixed (mixed n.member (word (seen n.low))) (word (seen n.high)))

-- the place that a name has, if any, is below a bound
abbrev pub Below : ℕ → View → Type 0
Below n None = Unit {0}
Below n Always = Unit {0}
Below n (Placed place) = place < n

-- the places that a node names are below a bound
abbrev pub NamesBelow : ℕ → Node → Type 0
NamesBelow n k = Below n (seen k.low) × Below n (seen k.high)

-- the tree of a name, over the trees of the places
abbrev pub tree_of : List Tree → View → Tree
tree_of ts None = none
tree_of ts Always = always
tree_of ts (Placed place) = slice_index_or ts place none

-- the tree of a diagram, over the trees of the places
abbrev pub tree_at : List Tree → Diagram → Tree
tree_at ts d = tree_of ts (seen d)

-- the tree of a node, over the trees of the places before it
abbrev pub node_tree : List Tree → Node → Tree
node_tree ts k = node k.member (tree_at ts k.low) (tree_at ts k.high)
