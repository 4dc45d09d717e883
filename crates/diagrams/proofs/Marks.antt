-- Marks: to mark a name adds one mark, and keeps what is marked reached and closed under parts.
use Rattle.std.proofs.Common.{◌≡◌, ℕ, ◌+◌, ◌<◌, ◌≤◌, Bool, true, false, cond, ltb, ◌≢◌, ◌⊎◌, List, length, get_or, set, replicate, Some, None, Option, is_some, sym, refl, ap, ◌∙◌, subst, inl, inr, ⊎_elim, arith, length-set, get_or-set_other, get_or-set_same}
use Rattle.std.proofs.Math.ListN.{get_or-map}
use Rattle.std.proofs.lemmas.List.{get_or_default, get_or_past, get_or-replicate, length-replicate}
use Rattle.std.proofs.lemmas.Bool.{cases_order, cases_lt, lt-ltb, false≢true}
use Rattle.interning.specs.Distinct.{◌∈◌, Within}
use Rattle.interning.specs.Model.{held}
use Rattle.interning.specs.Places.{Each, Stands}
use Rattle.interning.proofs.Decode.{length_decode}
use Rattle.memos.specs.declared.diagram.Diagram.{Diagram}
use Rattle.memos.specs.declared.diagram.View.{View}
use Rattle.memos.specs.declared.diagram.View.TheVariants.{None as Never, Always, Node as Place}
use Rattle.memos.specs.Diagrams.{seen}
use Rattle.families.specs.Trees.{Tree, none}
use Rattle.diagrams.specs.declared.node.Node.{Node}
use Rattle.diagrams.specs.declared.nodes.Cell.{Cell}
use Rattle.diagrams.specs.declared.nodes.NodeMemory.{NodeMemory}
use Rattle.diagrams.specs.NodeKeys.{Below, tree_of, tree_at, node_tree}
use Rattle.diagrams.specs.Memory.{trees}
use Rattle.diagrams.specs.Collecting.{nodes_in, reached, Marked, Marks, blank, marked_by, marks, copies, Sparing, Covers, ClosedFrom, Copied}
use Rattle.diagrams.proofs.Memories.{memory_each, place_names, place_tree, place_within}
use Rattle.diagrams.proofs.NodeTrees.{Nodal}
use Rattle.diagrams.proofs.Reached.{node_itself, low_inside, high_inside, reached_again, reached_root}

marked_within : (bs : List Bool) (p : ℕ) → Marked bs p → p < length bs
marked_within bs p m = ⊎_elim (λ (l : p < length bs). l) (λ (h : length bs ≤ p). absurd (false≢true (sym (get_or_past bs p false h) ∙ m))) (cases_lt p (length bs))

-- a place is marked where its cell keeps a node
pub mark_at : (cs : List Cell) (p : ℕ) → get_or (marks cs) p false ≡ is_some (get_or cs p blank).node
mark_at cs p = get_or-map (λ c. is_some c.node) cs p blank

pub copy_at : (cs : List Cell) (p : ℕ) → get_or (copies cs) p None ≡ (get_or cs p blank).node
copy_at cs p = get_or-map (λ c. c.node) cs p blank

-- blank cells keep nothing
pub blank_at : (n p : ℕ) → (get_or (replicate n blank) p blank).node ≡ None
blank_at n p =
    ap (λ c. c.node)
    (⊎_elim (λ (l : p < n). get_or-replicate n p blank blank l) (λ (h : n ≤ p). get_or_past (replicate n blank) p blank (simp length-replicate h)) (cases_lt p n))

pub past_unmarked : (bs : List Bool) (n p : ℕ) → get_or bs n false ≡ false → n ≤ p → Marked bs p → n < p
past_unmarked bs n p not low m = ⊎_elim (λ (l : p < n + 1). let e : p ≡ n = omega arith in absurd (false≢true (sym not ∙ ap (λ q. get_or bs q false) (sym e) ∙ m))) (λ (h : n + 1 ≤ p). omega arith) (cases_lt p (n + 1))

pub apart_ne : (p q : ℕ) → (p < q) ⊎ (q < p) → p ≢ q
apart_ne p q (inl l) e = omega arith
apart_ne p q (inr l) e = omega arith

-- the node that stands at a place may be kept there
pub copied_place : (ks : List Node) (os : List (Option Node)) (p : ℕ) (k : Node) → p < length os → Stands ks k p → Copied ks os → Copied ks (set os p (Some k))
copied_place ks os p k room stands copied q j l e =
    ⊎_elim (λ (s : q ≡ p).
    let both : Some k ≡ Some j = sym (get_or-set_same os p (Some k) None room) ∙ ap (λ x. get_or (set os p (Some k)) x None) (sym s) ∙ e in
    let is : k ≡ j = cc in
    subst (λ x. Stands ks x q) is (subst (λ x. Stands ks k x) (sym s) stands))
    (λ o. copied q j l (sym (get_or-set_other os p q (Some k) None (apart_ne q p o)) ∙ e)) (cases_order q p)

pub marked_grows : (n : ℕ) (bs : List Bool) (v : View) (p : ℕ) → Marked bs p → Marked (marked_by n bs v) p
marked_grows n bs Never p m = m
marked_grows n bs Always p m = m
marked_grows n bs (Place q) p m = go (ltb q n)
  where
    go : (b : Bool) → Marked (cond b (set bs q true) bs) p
    go false = m
    go true =
        ⊎_elim (λ (e : p ≡ q). subst (λ x. get_or (set bs x true) p false ≡ true) e (get_or-set_same bs p true false (marked_within bs p m)))
        (λ o. get_or-set_other bs q p true false (apart_ne p q o) ∙ m) (cases_order p q)

pub marks_grow : (n : ℕ) (bs : List Bool) (v w : View) → Marks bs w → Marks (marked_by n bs v) w
marks_grow n bs v Never m = tt
marks_grow n bs v Always m = tt
marks_grow n bs v (Place p) m = marked_grows n bs v p m

pub marked_new : (n : ℕ) (bs : List Bool) (v : View) → n ≤ length bs → Below n v → Marks (marked_by n bs v) v
marked_new n bs Never room b = tt
marked_new n bs Always room b = tt
marked_new n bs (Place q) room b = subst (λ c. Marked (cond c (set bs q true) bs) q) (sym (lt-ltb q n b)) (get_or-set_same bs q true false (omega arith))

marked_only : (n : ℕ) (bs : List Bool) (v : View) (p : ℕ) → Marked (marked_by n bs v) p → Marked bs p ⊎ (v ≡ Place p)
marked_only n bs Never p m = inl m
marked_only n bs Always p m = inl m
marked_only n bs (Place q) p m = go (ltb q n) m
  where
    go : (b : Bool) → Marked (cond b (set bs q true) bs) p → Marked bs p ⊎ (Place q ≡ Place p)
    go false o = inl o
    go true o =
        ⊎_elim (λ (e : p ≡ q). inr (ap Place (sym e))) (λ t. inl (sym (get_or-set_other bs q p true false (apart_ne p q t)) ∙ o)) (cases_order p q)

length_marked : (n : ℕ) (bs : List Bool) (v : View) → length (marked_by n bs v) ≡ length bs
length_marked n bs Never = refl
length_marked n bs Always = refl
length_marked n bs (Place q) = go (ltb q n)
  where
    go : (b : Bool) → length (cond b (set bs q true) bs) ≡ length bs
    go true = simp length-set
    go false = refl

-- a name may be marked where all nodes in its tree are reached
pub sparing_more : (ts : List Tree) (rs : List Diagram) (bs : List Bool) → Each Nodal ts → (v : View) → Within (nodes_in (tree_of ts v)) (reached ts rs) → Sparing ts rs bs → Sparing ts rs (marked_by (length ts) bs v)
sparing_more ts rs bs each v within sparing p l m =
    ⊎_elim (λ (old : Marked bs p). sparing p l old)
    (λ (e : v ≡ Place p). within _ (subst (λ w. get_or ts p none ∈ nodes_in (tree_of ts w)) (sym e) (node_itself _ (each p none l))))
    (marked_only (length ts) bs v p m)

-- one root more is marked
pub covers_more : (ts : List Tree) (rs : List Diagram) (n : ℕ) (bs : List Bool) (r : Diagram) → ((d : Diagram) → get_or rs n d ≡ r) → length ts ≤ length bs → Covers ts rs n bs → Covers ts rs (n + 1) (marked_by (length ts) bs (seen r))
covers_more ts rs n bs r here room covers i d l b =
    ⊎_elim (λ (e : i ≡ n).
    let is : get_or rs i d ≡ r = ap (λ j. get_or rs j d) e ∙ here d in
    subst (λ x. Marks (marked_by (length ts) bs (seen r)) (seen x)) (sym is) (marked_new (length ts) bs (seen r) room (subst (λ x. Below (length ts) (seen x)) is b)))
    (λ o. marks_grow (length ts) bs (seen r) (seen (get_or rs i d)) (covers i d (⊎_elim (λ (a : i < n). a) (λ (z : n < i). absurd (omega arith)) o) b))
    (cases_order i n)

-- the next root is marked
pub roots_more : (ts : List Tree) (rs : List Diagram) (n : ℕ) (bs bs' : List Bool) (e : Diagram) → bs' ≡ marked_by (length ts) bs (seen (get_or rs n e)) → n < length rs → length ts ≤ length bs → Each Nodal ts → Sparing ts rs bs × Covers ts rs n bs → Sparing ts rs bs' × Covers ts rs (n + 1) bs'
roots_more ts rs n bs bs' e is l room each inv = (
  subst (Sparing ts rs) (sym is) (sparing_more ts rs bs each (seen (get_or rs n e)) (reached_root ts rs n e l) inv.0),
  subst (Covers ts rs (n + 1)) (sym is) (covers_more ts rs n bs (get_or rs n e) (λ d. get_or_default rs n d e l) room inv.1),
)

module _ (m : NodeMemory) (p : ℕ) (k : Node) (stands : Stands (held m.interner) k p) (bs : List Bool) where
  abbrev low_marked : List Bool
  low_marked = marked_by (length (trees m)) bs (seen k.low)

  abbrev pub both_marked : List Bool
  both_marked = marked_by (length (trees m)) low_marked (seen k.high)

  pub both_grow : (q : ℕ) → Marked bs q → Marked both_marked q
  both_grow q h = marked_grows _ low_marked (seen k.high) q (marked_grows _ bs (seen k.low) q h)

  -- the parts of a marked node are reached if it is
  pub sparing_parts : (rs : List Diagram) → Marked bs p → Sparing (trees m) rs bs → Sparing (trees m) rs both_marked
  sparing_parts rs h sparing =
      let l : p < length (trees m) = omega (arith, stands.within, length_decode node_tree (held m.interner)) in
      let here : node_tree (trees m) k ∈ reached (trees m) rs = subst (λ t. t ∈ reached (trees m) rs) (place_tree m p k none stands) (sparing p l h) in
      let all = reached_again (trees m) rs (node_tree (trees m) k) here in
      sparing_more (trees m) rs low_marked (memory_each m) (seen k.high) (λ s i. all s (high_inside k.member (tree_at (trees m) k.low) (tree_at (trees m) k.high) s i))
      (sparing_more (trees m) rs bs (memory_each m) (seen k.low) (λ s i. all s (low_inside k.member (tree_at (trees m) k.low) (tree_at (trees m) k.high) s i)) sparing)

  parts_marked : length (trees m) ≤ length bs → Marks both_marked (seen k.low) × Marks both_marked (seen k.high)
  parts_marked room =
      let names = place_within m p k stands in (
        marks_grow _ low_marked (seen k.high) (seen k.low) (marked_new _ bs (seen k.low) room names.0),
        marked_new _ low_marked (seen k.high) (omega (arith, length_marked (length (trees m)) bs (seen k.low))) names.1,
      )

  -- a mark above p was there before
  marked_above : (q : ℕ) → p < q → Marked both_marked q → Marked bs q
  marked_above q a h =
      let names = place_names m p k stands in
      let not : (v : View) → Below p v → v ≡ Place q → ⊥ = λ v b e. let low : q < p = subst (Below p) e b in omega arith in
      ⊎_elim (λ (one : Marked low_marked q).
      ⊎_elim (λ (old : Marked bs q). old) (λ (e : seen k.low ≡ Place q). absurd (not (seen k.low) names.0 e)) (marked_only _ bs (seen k.low) q one))
      (λ (e : seen k.high ≡ Place q). absurd (not (seen k.high) names.1 e))
      (marked_only _ low_marked (seen k.high) q h)

  pub closed_parts : (n : ℕ) → n ≤ p + 1 → length (trees m) ≤ length bs → ClosedFrom (held m.interner) n bs → ClosedFrom (held m.interner) p both_marked
  closed_parts n few room closed q d low within h =
      ⊎_elim (λ (e : q ≡ p).
      let is : k ≡ get_or (held m.interner) q d = sym (ap (λ j. get_or (held m.interner) j d) e ∙ stands.here d) in
      subst (λ x. Marks both_marked (seen x.low) × Marks both_marked (seen x.high)) is (parts_marked room))
      (λ o.
      let above : p < q = ⊎_elim (λ (z : q < p). absurd (omega arith)) (λ (a : p < q). a) o in
      let old = closed q d (omega arith) within (marked_above q above h) in (
        marks_grow _ low_marked (seen k.high) _ (marks_grow _ bs (seen k.low) _ old.0),
        marks_grow _ low_marked (seen k.high) _ (marks_grow _ bs (seen k.low) _ old.1),
      ))
      (cases_order q p)
