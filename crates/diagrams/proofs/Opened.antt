-- Reading: what a diagram's node says of its tree, and the tree's two parts at a member.
use Rattle.std.proofs.Common.{◌≡◌, ℕ, ◌<◌, ◌≤◌, ◌||◌, List, length, Some, None, Option, sym, refl, ap, ◌∙◌, subst, arith}
use Rattle.std.proofs.lemmas.Option.{none-some}
use Rattle.interning.specs.Model.{held}
use Rattle.interning.specs.Places.{Stands}
use Rattle.interning.proofs.Decode.{length_decode}
use Rattle.memos.specs.declared.diagram.Diagram.{Diagram}
use Rattle.memos.specs.declared.diagram.View.{View}
use Rattle.memos.specs.declared.diagram.View.TheVariants.{None as Never, Always, Node as Place}
use Rattle.memos.specs.Diagrams.{seen}
use Rattle.families.specs.Trees.{Tree, none, is_none, is_always}
use Rattle.diagrams.specs.declared.node.Node.{Node}
use Rattle.diagrams.specs.declared.nodes.NodeMemory.{NodeMemory}
use Rattle.diagrams.specs.NodeKeys.{Below, tree_of, node_tree}
use Rattle.diagrams.specs.Memory.{trees}
use Rattle.diagrams.specs.Building.{Denotes, NamedNode, Opened}
use Rattle.diagrams.proofs.Memories.{place_tree, place_within}

-- the place of a name that has a node
pub place_of : (ks : List Node) (v : View) (k : Node) → NamedNode ks v (Some k) → (p : ℕ) × (Place p ≡ v) × Stands ks k p
place_of ks Never k e = absurd (none-some k (sym e))
place_of ks Always k e = absurd (none-some k (sym e))
place_of ks (Place p) k stands = (p, refl, stands)

-- a place that is held has a node
pub held_named : (m : NodeMemory) (v : View) (p : ℕ) → Place p ≡ v → Below (length (trees m)) v → NamedNode (held m.interner) v None → ⊥
held_named m v p is b nothing =
    let low : p < length (trees m) = subst (Below (length (trees m))) (sym is) b in
    let past : length (held m.interner) ≤ p = subst (λ w. NamedNode (held m.interner) w None) (sym is) nothing in
    omega (arith, length_decode node_tree (held m.interner))

-- the node of a diagram that is held
pub opened_named : (m : NodeMemory) (v : View) (r : Option Node) → NamedNode (held m.interner) v r → (t : Tree) → Below (length (trees m)) v → tree_of (trees m) v ≡ t → Opened (trees m) t r
opened_named m Never r e t b is = subst (Opened (trees m) t) (sym e) (ap (λ s. is_none s || is_always s) (sym is))
opened_named m Always r e t b is = subst (Opened (trees m) t) (sym e) (ap (λ s. is_none s || is_always s) (sym is))
opened_named m (Place p) None read t b is = absurd (omega (arith, length_decode node_tree (held m.interner)))
opened_named m (Place p) (Some k) read t b is = (place_within m p k read, sym is ∙ place_tree m p k none read)

-- a diagram that is none has no tree but none
pub none_denotes : (ts : List Tree) (d : Diagram) → seen d ≡ Never → Denotes ts d none
none_denotes ts d e = record { within = subst (Below (length ts)) (sym e) tt; is = ap (tree_of ts) e }
