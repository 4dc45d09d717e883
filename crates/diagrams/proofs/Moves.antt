-- Moving: a marked node is built anew over its moved parts, and has the tree that it had. There is room for it, since
-- no more trees are held than there were.
use Rattle.std.proofs.Common.{◌≡◌, ℕ, ◌+◌, ◌<◌, Bool, false, List, [], ◌∷◌, ◌++◌, length, get_or, set, Some, None, is_some, Ok, Err, Result, IsOk, sym, refl, ap, ◌∙◌, subst, inl, inr, ⊎_elim, arith, get_or-set_other, get_or-set_same}
use Rattle.std.proofs.lemmas.List.{get_or_default}
use Rattle.std.proofs.lemmas.Bool.{cases_order, false≢true}
use Rattle.interning.specs.declared.interner.Full.{Full}
use Rattle.interning.specs.Distinct.{◌∈◌, Within, NoRepeat}
use Rattle.interning.specs.Model.{held}
use Rattle.interning.specs.Places.{Kept, Stands}
use Rattle.interning.proofs.Decode.{length_decode}
use Rattle.interning.proofs.Distinct.{no_longer}
use Rattle.interning.proofs.Members.{in_either, stands_in}
use Rattle.memos.specs.declared.diagram.Diagram.{Diagram}
use Rattle.memos.specs.declared.diagram.View.{View}
use Rattle.memos.specs.declared.diagram.View.TheVariants.{None as Never, Always, Node as Place}
use Rattle.memos.specs.Diagrams.{seen}
use Rattle.families.specs.Trees.{Tree, none, build}
use Rattle.families.specs.Good.{Proper}
use Rattle.families.specs.Outcomes.{made}
use Rattle.diagrams.specs.declared.node.Node.{Node}
use Rattle.diagrams.specs.declared.nodes.Cell.{Cell}
use Rattle.diagrams.specs.declared.nodes.NodeMemory.{NodeMemory}
use Rattle.diagrams.specs.NodeKeys.{Below, tree_of, tree_at, node_tree}
use Rattle.diagrams.specs.Memory.{trees, places}
use Rattle.diagrams.specs.Building.{Denotes, Fitting, Joins, Lacks, Made}
use Rattle.diagrams.specs.Collecting.{Marked, Marks, ClosedFrom, Copied, Moved, blank, copies, marks, moved_as, moves}
use Rattle.diagrams.proofs.FramesKept.{denotes_kept}
use Rattle.diagrams.proofs.Built.{build_node, made_one}
use Rattle.diagrams.proofs.Marks.{apart_ne, copy_at, mark_at}
use Rattle.diagrams.proofs.Memories.{memory_fits, memory_proper, place_names, place_tree}

view_kept : (ts ts' : List Tree) → Kept ts ts' → (v : View) → Below (length ts) v → Below (length ts') v × (tree_of ts' v ≡ tree_of ts v)
view_kept ts ts' kept Never b = (tt, refl)
view_kept ts ts' kept Always b = (tt, refl)
view_kept ts ts' kept (Place p) b = (omega (arith, kept.longer), kept.same p none b)

-- a name that is marked has moved with its tree
pub name_moved : (ts : List Tree) (bs : List Bool) (n : ℕ) (ts' : List Tree) (ms : List Diagram) → Moved ts bs n ts' ms → (d : Diagram) (v : View) → seen d ≡ v → Below n v → Marks bs v → Denotes ts' (moved_as ms d v) (tree_of ts v)
name_moved ts bs n ts' ms moved d Never e b m = record { within = subst (Below (length ts')) (sym e) tt; is = ap (tree_of ts') e }
name_moved ts bs n ts' ms moved d Always e b m = record { within = subst (Below (length ts')) (sym e) tt; is = ap (tree_of ts') e }
name_moved ts bs n ts' ms moved d (Place q) e b m = moved.there q d b m

-- a place that is not marked does not move
pub moved_unmarked : (ts : List Tree) (bs : List Bool) (n : ℕ) (ts' : List Tree) (ms : List Diagram) → get_or bs n false ≡ false → Moved ts bs n ts' ms → Moved ts bs (n + 1) ts' ms
moved_unmarked ts bs n ts' ms not moved = record {
  there = λ p d l m. ⊎_elim (λ (e : p ≡ n). absurd (false≢true (sym not ∙ ap (λ x. get_or bs x false) (sym e) ∙ m)))
      (λ o. moved.there p d (⊎_elim (λ (a : p < n). a) (λ (z : n < p). absurd (omega arith)) o) m) (cases_order p n);
  only = λ t i. let r = moved.only t i in (r.0, omega (arith, r.1), r.2, r.3);
}

-- One turn of building anew: at the place p, whose cell still keeps the node k, and from the parts' new names.
module _ (m : NodeMemory) (cs cs' : List Cell) (closed : ClosedFrom (held m.interner) 0 (marks cs)) (copied : Copied (held m.interner) (copies cs)) (stay : copies cs' ≡ copies cs) (p : ℕ) (held_below : p < length (trees m)) (k : Node) (here : (get_or cs' p blank).node ≡ Some k) (ts' : List Tree) (moved : Moved (trees m) (marks cs) p ts' (moves cs')) (low high : Diagram) (is-low : low ≡ moved_as (moves cs') k.low (seen k.low)) (is-high : high ≡ moved_as (moves cs') k.high (seen k.high)) where
  abbrev bs : List Bool
  bs = marks cs

  abbrev ms : List Diagram
  ms = moves cs'

  kept : get_or (copies cs) p None ≡ Some k
  kept = ap (λ os. get_or os p None) (sym stay) ∙ copy_at cs' p ∙ here

  marked : Marked bs p
  marked = mark_at cs p ∙ ap is_some (sym (copy_at cs p) ∙ kept)

  stands : Stands (held m.interner) k p
  stands = copied p k (omega (arith, length_decode node_tree (held m.interner))) kept

  parts_marked : Marks bs (seen k.low) × Marks bs (seen k.high)
  parts_marked = subst (λ x. Marks bs (seen x.low) × Marks bs (seen x.high)) (stands.here k) (closed p k (omega arith) stands.within marked)

  abbrev low_tree : Tree
  low_tree = tree_at (trees m) k.low

  abbrev high_tree : Tree
  high_tree = tree_at (trees m) k.high

  low_moved : Denotes ts' low low_tree
  low_moved = subst (λ x. Denotes ts' x low_tree) (sym is-low) (name_moved (trees m) bs p ts' ms moved k.low (seen k.low) refl (place_names m p k stands).0 parts_marked.0)

  high_moved : Denotes ts' high high_tree
  high_moved = subst (λ x. Denotes ts' x high_tree) (sym is-high) (name_moved (trees m) bs p ts' ms moved k.high (seen k.high) refl (place_names m p k stands).1 parts_marked.1)

  proper : Proper (node_tree (trees m) k)
  proper = subst Proper (place_tree m p k none stands) (memory_proper m p none held_below)

  is-node : build k.member low_tree high_tree ≡ node_tree (trees m) k
  is-node = build_node k.member low_tree high_tree proper.good.some

  built : build k.member low_tree high_tree ≡ get_or (trees m) p none
  built = is-node ∙ sym (place_tree m p k none stands)

  -- so the node may be built over its moved parts
  pub fitting : Fitting ts' (record { member = k.member; low = low; high = high })
  fitting = record { names = (low_moved.within, high_moved.within); good = rw (low_moved.is, high_moved.is, is-node) proper.good }

  one : made k.member low_tree high_tree ≡ build k.member low_tree high_tree ∷ []
  one = made_one k.member low_tree high_tree proper.good.some

  module _ (d : Diagram) (ts'' : List Tree) (joined : Made ts' (build k.member low_tree high_tree) (made k.member low_tree high_tree) d ts'') (l : p < length ms) where
    moved_there : (q : ℕ) (e : Diagram) → q < p + 1 → Marked bs q → Denotes ts'' (get_or (set ms p d) q e) (get_or (trees m) q none)
    moved_there q e h mk =
        ⊎_elim (λ (s : q ≡ p).
        subst (λ j. Denotes ts'' (get_or (set ms p d) j e) (get_or (trees m) j none)) (sym s)
        (subst (λ x. Denotes ts'' x (get_or (trees m) p none)) (sym (get_or-set_same ms p d e l)) (subst (Denotes ts'' d) built joined.denotes)))
        (λ o.
        let below : q < p = ⊎_elim (λ (a : q < p). a) (λ (z : p < q). absurd (omega arith)) o in
        subst (λ x. Denotes ts'' x (get_or (trees m) q none)) (sym (get_or-set_other ms p q d e (apart_ne q p o))) (denotes_kept ts' ts'' joined.kept (get_or ms q e) (get_or (trees m) q none) (moved.there q e below mk)))
        (cases_order q p)

    abbrev From : Tree → Type 0
    From t = (q : ℕ) × (q < p + 1) × Marked bs q × (get_or (trees m) q none ≡ t)

    old_from : (t : Tree) → t ∈ ts' → From t
    old_from t i = let r = moved.only t i in (r.0, omega (arith, r.1), r.2, r.3)

    moved_only : (t : Tree) → t ∈ ts'' → From t
    moved_only t i =
        ⊎_elim (λ (a : t ∈ ts'). old_from t a) (⊎_elim (λ (b : t ≡ build k.member low_tree high_tree). (p, omega arith, marked, sym (b ∙ built))) (λ (f : ⊥). absurd f))
        (in_either ts' (build k.member low_tree high_tree ∷ []) t (subst (λ us. t ∈ (ts' ++ us)) one (joined.only t i)))

    moved_placed : Moved (trees m) bs (p + 1) ts'' (set ms p d)
    moved_placed = record { there = moved_there; only = moved_only }

  tree_in : (q : ℕ) → q < length (trees m) → get_or (trees m) q none ∈ trees m
  tree_in q h = stands_in (trees m) (get_or (trees m) q none) q (record { within = h; here = λ d. get_or_default (trees m) q d none h })

  all_within : Within (build k.member low_tree high_tree ∷ ts') (trees m)
  all_within t (inl e) = subst (λ x. x ∈ trees m) (sym (e ∙ built)) (tree_in p held_below)
  all_within t (inr i) = let r = moved.only t i in subst (λ x. x ∈ trees m) r.3 (tree_in r.0 (omega (arith, r.1, held_below)))

  -- the memory is not full
  never_full : (cap : ℕ) (ts'' : List Tree) → NoRepeat ts' → cap ≡ places m → Lacks cap ts' (made k.member low_tree high_tree) ts'' → ⊥
  never_full cap ts'' once same lacks =
      let is : lacks.missing ≡ build k.member low_tree high_tree = ⊎_elim (λ e. e) (λ (f : ⊥). absurd f) (subst (λ us. lacks.missing ∈ us) one lacks.among) in
      let few = no_longer (build k.member low_tree high_tree ∷ ts') (trees m) ((λ i. lacks.absent (subst (λ t. t ∈ ts') (sym is) i)), once) all_within in
      omega (arith, lacks.full, memory_fits m)

  module _ (cap : ℕ) (r : Result Diagram Full) (ts'' : List Tree) (joins : (l h : Tree) → Denotes ts' low l → Denotes ts' high h → Joins cap ts' k.member l h r ts'') where
    joined : Joins cap ts' k.member low_tree high_tree r ts''
    joined = joins low_tree high_tree low_moved high_moved

    -- so it is built
    pub never_refused : NoRepeat ts' → cap ≡ places m → IsOk r
    never_refused once same = go r joined
      where
        go : (r : Result Diagram Full) → Joins cap ts' k.member low_tree high_tree r ts'' → IsOk r
        go (Ok d) made = refl
        go (Err e) lacks = absurd (never_full cap ts'' once same lacks)

    -- and has moved
    pub moved_next : (d : Diagram) → r ≡ Ok d → p < length ms → Moved (trees m) bs (p + 1) ts'' (set ms p d)
    moved_next d is l = moved_placed d ts'' (subst (λ x. Joins cap ts' k.member low_tree high_tree x ts'') is joined) l
