-- The sizes of a bench, its sixteen shelves, and which groups pass on a shelf.
use Rattle.std.specs.Prelude.{◌≡◌, ℕ, ◌<◌, ◌≤◌, Bool, true, false, List, [], ◌∷◌, ◌++◌, length, replicate, Some, None, Option, slice_index_or, slice_set}
use Rattle.families.specs.Sets.{Meet}
use Rattle.families.specs.Groups.{Group, holds}
use Rattle.families.specs.Trees.{Tree, none, passes}
use Rattle.families.specs.Good.{Proper, Upto}
use Rattle.diagrams.specs.Collecting.{nodes_in}

-- the number of members, the places for nodes and those for the terms of a rule
pub record Sizes : Type 0 where
  pub members : ℕ
  pub nodes : ℕ
  pub terms : ℕ

-- the sizes that a bench may have
pub record Allowed (z : Sizes) : Type 0 where
  pub some_member : 1 ≤ z.members
  pub few_members : z.members ≤ 48
  pub least_nodes : 48 ≤ z.nodes
  pub most_nodes : z.nodes ≤ 65536
  pub least_terms : 64 ≤ z.terms
  pub most_terms : z.terms ≤ 16384

-- what stands on a shelf: nothing, or the tree of a family
abbrev pub Stand : Type 0
Stand = Option Tree

abbrev pub Shelves : Type 0
Shelves = List Stand

-- all shelves are empty at the opening
abbrev pub fresh : Shelves
fresh = replicate 16 None

abbrev pub on_shelf : Shelves → ℕ → Stand
on_shelf ss i = slice_index_or ss i None

-- the tree that stands there, and none on an empty shelf
abbrev pub tree_of : Stand → Tree
tree_of None = none
tree_of (Some t) = t

abbrev pub tree_on : Shelves → ℕ → Tree
tree_on ss i = tree_of (on_shelf ss i)

-- the shelves with another stand on one of them
abbrev pub put : ℕ → Stand → Shelves → Shelves
put c s ss = slice_set ss c s

-- whether a set of members passes: on an empty shelf nothing does
abbrev pub passes_on : Stand → (ℕ → Bool) → Bool
passes_on None g = false
passes_on (Some t) g = passes t g

-- the group with the number n passes
abbrev pub Passes : Stand → ℕ → Type 0
Passes s n = passes_on s (holds n) ≡ true

-- the group with the number n shares a member with every group that passes
abbrev pub Stops : Stand → ℕ → Type 0
Stops s n = (m : ℕ) → Group m → Passes s m → Meet (holds n) (holds m)

-- the same groups pass
abbrev pub SamePassing : Stand → Stand → Type 0
SamePassing s t = (n : ℕ) → Group n → passes_on s (holds n) ≡ passes_on t (holds n)

-- what a shelf may hold over n members: a family other than none and always
abbrev pub MayStand : ℕ → Stand → Type 0
MayStand n None = Unit {0}
MayStand n (Some t) = Proper t × Upto n t

-- there are sixteen shelves, and each holds what it may
pub record Stocked (n : ℕ) (ss : Shelves) : Type 0 where
  pub sixteen : length ss ≡ 16
  pub each : (i : ℕ) → i < 16 → MayStand n (on_shelf ss i)

-- the nodes in the shelves
abbrev pub shelf_nodes : Shelves → List Tree
shelf_nodes [] = []
shelf_nodes (s ∷ ss) = nodes_in (tree_of s) ++ shelf_nodes ss
