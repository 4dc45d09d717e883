-- Values told upward: that of a node comes from those of its two parts, which stand before it.
use Rattle.std.proofs.Common.{◌≡◌, ℕ, ◌+◌, ◌<◌, ◌≢◌, List, length, get_or, set, sym, refl, ap, ◌∙◌, subst, arith, get_or-set_other, get_or-set_same, below_more}
use Rattle.interning.specs.Model.{held}
use Rattle.interning.specs.Places.{Stands}
use Rattle.interning.proofs.Decode.{length_decode}
use Rattle.memos.specs.declared.diagram.View.{View}
use Rattle.memos.specs.declared.diagram.View.TheVariants.{None as Never, Always, Node as Place}
use Rattle.memos.specs.Diagrams.{seen}
use Rattle.families.specs.Good.{Good, Proper}
use Rattle.families.specs.Trees.{Tree, none, node}
use Rattle.diagrams.specs.declared.node.Node.{Node}
use Rattle.diagrams.specs.declared.nodes.NodeMemory.{NodeMemory}
use Rattle.diagrams.specs.Folding.{Folded, HasParts, value_at}
use Rattle.diagrams.specs.NodeKeys.{Below, tree_of, tree_at, node_tree}
use Rattle.diagrams.specs.Memory.{trees}
use Rattle.diagrams.proofs.Memories.{memory_proper, place_names, place_tree}

-- the value of a name is right where those of the places before are
pub value_right : {A : Type 0} (f : Tree → A) (ts : List Tree) (n : ℕ) (xs : List A) → Folded f ts n xs → (v : View) → Below n v → value_at f xs v ≡ f (tree_of ts v)
value_right f ts n xs folded Never b = refl
value_right f ts n xs folded Always b = refl
value_right f ts n xs folded (Place p) b = folded p b

pub folded_more : {A : Type 0} (f : Tree → A) (ts : List Tree) (n : ℕ) (xs : List A) (x : A) → n < length xs → Folded f ts n xs → x ≡ f (get_or ts n none) → Folded f ts (n + 1) (set xs n x)
folded_more f ts n xs x within folded is =
    below_more _ _
    (λ k h. let ne : k ≢ n = omega arith in rw get_or-set_other (folded k h))
    (rw get_or-set_same is)

module _ (m : NodeMemory) (p : ℕ) (k : Node) (stands : Stands (held m.interner) k p) where
  -- the tree of a node that is held is that of a family
  pub node_good : Good 1 (node_tree (trees m) k)
  node_good =
      let within : p < length (trees m) = omega (arith, stands.within, length_decode node_tree (held m.interner)) in
      (subst Proper (place_tree m p k none stands) (memory_proper m p none within)).good

  module _ {A : Type 0} (f : Tree → A) (xs : List A) (folded : Folded f (trees m) p xs) (low high : A) (is-low : low ≡ value_at f xs (seen k.low)) (is-high : high ≡ value_at f xs (seen k.high)) where
    low_right : low ≡ f (tree_at (trees m) k.low)
    low_right = is-low ∙ value_right f (trees m) p xs folded (seen k.low) (place_names m p k stands).0

    high_right : high ≡ f (tree_at (trees m) k.high)
    high_right = is-high ∙ value_right f (trees m) p xs folded (seen k.high) (place_names m p k stands).1

    pub has_parts : HasParts f k.member low high
    has_parts = (tree_at (trees m) k.low, tree_at (trees m) k.high, node_good, low_right, high_right)

    -- the value of the place
    pub place_value : (x : A) → ((l h : Tree) → Good 1 (node k.member l h) → low ≡ f l → high ≡ f h → x ≡ f (node k.member l h)) → x ≡ f (get_or (trees m) p none)
    place_value x told = told (tree_at (trees m) k.low) (tree_at (trees m) k.high) node_good low_right high_right ∙ ap f (sym (place_tree m p k none stands))
