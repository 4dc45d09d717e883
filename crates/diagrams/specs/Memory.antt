-- A node memory as the list of its trees.
use Rattle.std.specs.Prelude.{◌≡◌, ℕ, List}
use Rattle.interning.specs.Decode.{decode}
use Rattle.interning.specs.Model.{held, capacity}
use Rattle.families.specs.Trees.{Tree}
use Rattle.diagrams.specs.declared.nodes.NodeMemory.{NodeMemory}
use Rattle.diagrams.specs.NodeKeys.{node_tree}

-- the trees of its nodes, in order of arrival
abbrev pub trees : NodeMemory → List Tree
trees m = decode node_tree (held m.interner)

-- how many nodes it can hold
abbrev pub places : NodeMemory → ℕ
places m = capacity m.interner

-- the same slots, with as many places: only what is held may differ
pub record SameMemory (m m' : NodeMemory) : Type 0 where
  pub room : places m' ≡ places m
  pub named : m'.interner.slots.ghost_name ≡ m.interner.slots.ghost_name
