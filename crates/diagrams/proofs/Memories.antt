-- A node memory holds different trees of families, no more than it has places; one tree has one diagram.
use Rattle.std.proofs.Common.{◌≡◌, ℕ, ◌≤◌, List, length, get_or, Result, sym, ap, ◌∙◌, subst, arith}
use Rattle.interning.specs.declared.interner.Full.{Full}
use Rattle.interning.specs.Decode.{decode, Rooted}
use Rattle.interning.specs.Interned.{Interned}
use Rattle.interning.specs.Model.{held}
use Rattle.interning.specs.Places.{Apart, Each, Stands}
use Rattle.interning.proofs.Decode.{decode_apart, decode_at, decode_each, decode_interned, length_decode}
use Rattle.interning.proofs.Sound.{held_apart, held_fits}
use Rattle.memos.proofs.Diagrams.{seen_alike}
use Rattle.memos.specs.declared.diagram.Diagram.{Diagram}
use Rattle.memos.specs.declared.diagram.View.{View}
use Rattle.memos.specs.declared.diagram.View.TheVariants.{None, Always, Node as Place}
use Rattle.memos.specs.Diagrams.{seen}
use Rattle.families.specs.Trees.{Tree, none}
use Rattle.families.specs.Good.{Good, Proper}
use Rattle.diagrams.specs.declared.node.Node.{Node}
use Rattle.diagrams.specs.declared.nodes.NodeMemory.{NodeMemory}
use Rattle.diagrams.specs.NodeKeys.{Below, NamesBelow, tree_of, node_tree}
use Rattle.diagrams.specs.Memory.{trees, places}
use Rattle.diagrams.specs.Building.{Denotes}
use Rattle.diagrams.proofs.GoodTrees.{each_out}
use Rattle.diagrams.proofs.NodeTrees.{Nodal, readable, rooted_out, below_rise, view_told}

view_good : (ts : List Tree) → Each Proper ts → (v : View) → Below (length ts) v → Good 1 (tree_of ts v)
view_good ts each None b = tt
view_good ts each Always b = tt
view_good ts each (Place p) b = (each p none b).good

module _ (m : NodeMemory) where
  pub memory_rooted : Rooted NamesBelow (held m.interner)
  memory_rooted = rooted_out _ m.rooted

  pub memory_each : Each Nodal (trees m)
  memory_each = decode_each readable (held m.interner) memory_rooted

  pub memory_apart : Apart (trees m)
  memory_apart = decode_apart readable (held m.interner) memory_rooted (held_apart m.interner)

  pub memory_proper : Each Proper (trees m)
  memory_proper = each_out (trees m) m.good

  pub memory_fits : length (trees m) ≤ places m
  memory_fits = omega (arith, length_decode node_tree (held m.interner), held_fits m.interner)

  -- what a diagram of the memory denotes is the tree of a family
  pub denotes_good : (d : Diagram) (t : Tree) → Denotes (trees m) d t → Good 1 t
  denotes_good d t den = subst (Good 1) den.is (view_good (trees m) memory_proper (seen d) den.within)

  -- one tree has one diagram
  pub denotes_once : (a b : Diagram) (t : Tree) → Denotes (trees m) a t → Denotes (trees m) b t → a ≡ b
  denotes_once a b t x y = seen_alike a b (view_told (trees m) memory_each memory_apart (seen a) (seen b) x.within y.within (x.is ∙ sym y.is))

  -- the places that a node of the memory names are held
  pub names_held : (k : Node) → NamesBelow (length (trees m)) k → NamesBelow (length (held m.interner)) k
  names_held k = subst (λ n. NamesBelow n k) (length_decode node_tree (held m.interner))

  -- to intern a node is to intern its tree
  pub lifted : (k : Node) (r : Result ℕ Full) (ks : List Node) → NamesBelow (length (trees m)) k → Interned (places m) (held m.interner) k r ks → Interned (places m) (trees m) (node_tree (trees m) k) r (decode node_tree ks)
  lifted k r ks names = decode_interned readable (held m.interner) k memory_rooted (held_apart m.interner) (names_held k names) _ r ks

  -- the node at a place names earlier places, and its tree is the one there
  pub place_names : (p : ℕ) (k : Node) → Stands (held m.interner) k p → NamesBelow p k
  place_names p k s = subst (NamesBelow p) (s.here k) (memory_rooted p k s.within)

  pub place_tree : (p : ℕ) (k : Node) (d : Tree) → Stands (held m.interner) k p → get_or (trees m) p d ≡ node_tree (trees m) k
  place_tree p k d s = decode_at readable (held m.interner) memory_rooted p d k s.within ∙ ap (node_tree (trees m)) (s.here k)

  pub place_within : (p : ℕ) (k : Node) → Stands (held m.interner) k p → NamesBelow (length (trees m)) k
  place_within p k s =
      let long = length_decode node_tree (held m.interner) in
      let few : p ≤ length (trees m) = omega (arith, s.within) in
      let names = place_names p k s in
      (below_rise p (length (trees m)) (seen k.low) few names.0, below_rise p (length (trees m)) (seen k.high) few names.1)
