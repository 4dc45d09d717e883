-- Diagrams over the trees of a node memory, and how one is built.
use Rattle.std.specs.Prelude.{◌≡◌, ℕ, ◌≤◌, true, cond, ◌||◌, List, [], ◌∷◌, ◌++◌, length, Some, None, Option, Result, MatchResult}
use Rattle.interning.specs.declared.interner.Full.{Full}
use Rattle.interning.specs.Distinct.{◌∈◌, Within}
use Rattle.interning.specs.Places.{Kept, Read}
use Rattle.memos.specs.declared.diagram.Diagram.{Diagram}
use Rattle.memos.specs.declared.diagram.View.{View}
use Rattle.memos.specs.declared.diagram.View.TheVariants.{None as Never, Always, Node as Place}
use Rattle.memos.specs.Diagrams.{seen}
use Rattle.families.specs.Groups.{is_member}
use Rattle.families.specs.Trees.{Tree, none, alone, build, is_none, is_always}
use Rattle.families.specs.Good.{Good}
use Rattle.families.specs.Outcomes.{made}
use Rattle.diagrams.specs.declared.node.Node.{Node}
use Rattle.diagrams.specs.NodeKeys.{Below, NamesBelow, tree_at, node_tree}

-- the diagram is none, always or a place of the list, and t is its tree
pub record Denotes (ts : List Tree) (d : Diagram) (t : Tree) : Type 0 where
  pub within : Below (length ts) (seen d)
  pub is : tree_at ts d ≡ t

-- the node's parts are held, and what is built over them is the tree of a family
pub record Fitting (ts : List Tree) (k : Node) : Type 0 where
  pub names : NamesBelow (length ts) k
  pub good : Good 1 (build k.member (tree_at ts k.low) (tree_at ts k.high))

-- d has the tree t, the nodes us are held, every place keeps its tree, and nothing else is added
pub record Made (ts : List Tree) (t : Tree) (us : List Tree) (d : Diagram) (ts' : List Tree) : Type 0 where
  pub denotes : Denotes ts' d t
  pub kept : Kept ts ts'
  pub there : Within us ts'
  pub only : Within ts' (ts ++ us)

-- no place is free, one of the nodes us is not held, and nothing changes
pub record Lacks (cap : ℕ) (ts us ts' : List Tree) : Type 0 where
  pub full : cap ≤ length ts
  pub missing : Tree
  pub among : missing ∈ us
  pub absent : missing ∈ ts → ⊥
  pub same : ts' ≡ ts

-- From the trees ts, with cap places, the tree t is made with the nodes us, or one of these lacks a place.
abbrev pub Makes : ℕ → List Tree → Tree → List Tree → Result Diagram Full → List Tree → Type 0
Makes cap ts t us r ts' = MatchResult r (λ d. Made ts t us d ts') (λ _. Lacks cap ts us ts')

-- the tree over l and h is made: low where high is none, else the one node
abbrev pub Joins : ℕ → List Tree → ℕ → Tree → Tree → Result Diagram Full → List Tree → Type 0
Joins cap ts v l h = Makes cap ts (build v l h) (made v l h)

-- the family whose only group is the member v alone, and the empty family where v is no member
abbrev pub single_tree : ℕ → Tree
single_tree v = cond (is_member v) (alone v) none

-- the nodes in it: one, or none
abbrev pub single_made : ℕ → List Tree
single_made v = cond (is_member v) (alone v ∷ []) []

-- what stands at the place that a name has, or none where it has none or is past the end
abbrev pub NamedNode : List Node → View → Option Node → Type 0
NamedNode ks Never o = o ≡ None
NamedNode ks Always o = o ≡ None
NamedNode ks (Place p) o = Read ks p o

-- the node of the tree t, over places that are held, or none where t is none or always
abbrev pub Opened : List Tree → Tree → Option Node → Type 0
Opened ts t (Some k) = NamesBelow (length ts) k × (t ≡ node_tree ts k)
Opened ts t None = (is_none t || is_always t) ≡ true
