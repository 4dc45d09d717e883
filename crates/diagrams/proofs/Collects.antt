-- Throwing out: what is marked is what the roots reach, and what is marked has moved.
use Rattle.std.proofs.Common.{◌≡◌, ℕ, zero, suc, ◌<◌, ◌≤◌, Bool, ◌||◌, List, ◌++◌, length, map, get_or, sym, refl, ap, ◌∙◌, subst, ⊎_elim, not-suc-le-zero, arith}
use Rattle.std.proofs.lemmas.List.{get_or-map, get_or_default, get_or_past}
use Rattle.std.proofs.lemmas.Bool.{cases_lt, false≢true}
use Rattle.interning.specs.Distinct.{◌∈◌}
use Rattle.interning.specs.Model.{held}
use Rattle.interning.specs.Places.{Stands}
use Rattle.interning.proofs.Decode.{length_decode}
use Rattle.interning.proofs.Members.{in_either, stands_in}
use Rattle.memos.specs.declared.diagram.Diagram.{Diagram}
use Rattle.memos.specs.declared.diagram.View.{View}
use Rattle.memos.specs.declared.diagram.View.TheVariants.{None as Never, Always, Node as Place}
use Rattle.memos.specs.Diagrams.{seen}
use Rattle.families.specs.Trees.{Tree, none, is_none, is_always}
use Rattle.diagrams.specs.declared.node.Node.{Node}
use Rattle.diagrams.specs.declared.nodes.NodeMemory.{NodeMemory}
use Rattle.diagrams.specs.NodeKeys.{Below, tree_of, tree_at, node_tree}
use Rattle.diagrams.specs.Memory.{trees}
use Rattle.diagrams.specs.Building.{Denotes}
use Rattle.diagrams.specs.Collecting.{nodes_in, reached, Collected, Marked, Marks, Sparing, Covers, ClosedFrom, Moved, blank, moved_as}
use Rattle.diagrams.proofs.Memories.{memory_each, place_names, place_tree}
use Rattle.diagrams.proofs.Moves.{name_moved}
use Rattle.diagrams.proofs.NodeTrees.{Nodal, below_rise}
use Rattle.diagrams.proofs.Reached.{reached_from}

-- a diagram of a node has a place of the list
denotes_in : (ts : List Tree) (v : View) (t : Tree) → Nodal t → Below (length ts) v → tree_of ts v ≡ t → t ∈ ts
denotes_in ts Never t p b e = absurd (false≢true (sym p ∙ sym (ap (λ s. is_none s || is_always s) e)))
denotes_in ts Always t p b e = absurd (false≢true (sym p ∙ sym (ap (λ s. is_none s || is_always s) e)))
denotes_in ts (Place q) t p b e = stands_in ts t q (record { within = b; here = λ d. get_or_default ts q d none b ∙ e })

blank_node : Node
blank_node = record { member = 0; low = blank.moved; high = blank.moved }

module _ (m : NodeMemory) (bs : List Bool) (closed : ClosedFrom (held m.interner) 0 bs) where
  abbrev AtMarked : Tree → Type 0
  AtMarked s = (q : ℕ) × (q < length (trees m)) × Marked bs q × (get_or (trees m) q none ≡ s)

  -- each node in the tree of a marked name stands at a marked place
  marked_inside : (n : ℕ) → n ≤ length (trees m) → (v : View) → Below n v → Marks bs v → (s : Tree) → s ∈ nodes_in (tree_of (trees m) v) → AtMarked s
  marked_inside n few Never b mk s i = absurd i
  marked_inside n few Always b mk s i = absurd i
  marked_inside zero few (Place p) b mk s i = absurd (not-suc-le-zero b)
  marked_inside (suc n) few (Place p) b mk s i =
      let ks = held m.interner in
      let k = get_or ks p blank_node in
      let long = length_decode node_tree ks in
      let stands : Stands ks k p = record { within = omega arith; here = λ d. get_or_default ks p d blank_node (omega arith) } in
      let names = place_names m p k stands in
      let parts = closed p blank_node (omega arith) stands.within mk in
      let is = place_tree m p k none stands in
      ⊎_elim (λ (e : s ≡ node_tree (trees m) k). (p, omega arith, mk, is ∙ sym e))
      (λ (o : s ∈ (nodes_in (tree_at (trees m) k.low) ++ nodes_in (tree_at (trees m) k.high))).
      ⊎_elim (λ (a : s ∈ nodes_in (tree_at (trees m) k.low)). marked_inside n (omega arith) (seen k.low) (below_rise p n (seen k.low) (omega arith) names.0) parts.0 s a)
      (λ (z : s ∈ nodes_in (tree_at (trees m) k.high)). marked_inside n (omega arith) (seen k.high) (below_rise p n (seen k.high) (omega arith) names.1) parts.1 s z)
      (in_either (nodes_in (tree_at (trees m) k.low)) (nodes_in (tree_at (trees m) k.high)) s o))
      (subst (λ t. s ∈ nodes_in t) is i)

  -- a root that is not held has no tree but none
  held_root : (v : View) (s : Tree) → s ∈ nodes_in (tree_of (trees m) v) → Below (length (trees m)) v
  held_root Never s i = tt
  held_root Always s i = tt
  held_root (Place p) s i =
      ⊎_elim (λ (l : p < length (trees m)). l) (λ (h : length (trees m) ≤ p). absurd (subst (λ t. s ∈ nodes_in t) (get_or_past (trees m) p none h) i)) (cases_lt p (length (trees m)))

  pub collected : (rs : List Diagram) (ts' : List Tree) (ms rs' : List Diagram) → Sparing (trees m) rs bs → Covers (trees m) rs (length rs) bs → Moved (trees m) bs (length (trees m)) ts' ms
      → rs' ≡ map (λ d. moved_as ms d (seen d)) rs → Collected (trees m) rs ts' rs'
  collected rs ts' ms rs' sparing covers moved renamed = record {
    kept = λ i d t l den.
        let r = get_or rs i d in
        let new = name_moved (trees m) bs (length (trees m)) ts' ms moved r (seen r) refl den.within (covers i d l den.within) in
        let is : get_or rs' i d ≡ moved_as ms r (seen r) = ap (λ xs. get_or xs i d) renamed ∙ get_or-map _ rs i d d l in
        subst (λ x. Denotes ts' x t) (sym is) (subst (Denotes ts' (moved_as ms r (seen r))) den.is new);
    only = λ t i. let r = moved.only t i in subst (λ x. x ∈ reached (trees m) rs) r.3 (sparing r.0 r.1 r.2);
    all = λ s i.
        let o = reached_from (trees m) rs blank.moved s i in
        let v = seen (get_or rs o.0 blank.moved) in
        let b = held_root v s o.2 in
        let at = marked_inside (length (trees m)) (omega arith) v b (covers o.0 blank.moved o.1 b) s o.2 in
        let new = moved.there at.0 blank.moved at.1 at.2 in
        subst (λ x. x ∈ ts') at.3 (denotes_in ts' (seen (get_or ms at.0 blank.moved)) (get_or (trees m) at.0 none) (memory_each m at.0 none at.1) new.within new.is);
  }
