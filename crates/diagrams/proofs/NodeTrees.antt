-- Nodes can be told by the trees that they stand for: a part is none, always or the tree of one place alone.
use Rattle.std.specs.Prelude.{◌≡◌, ℕ, ◌≤◌, false, ◌||◌, List, [], ◌++◌, length, ◌≢◌, slice_index_or, refl}
use Rattle.std.proofs.Common.{sym, ap, subst, ◌∙◌, ⊎_elim, not-suc-le-zero, arith}
use mathlib.Core.HLevel.{×_prop}
use Rattle.std.proofs.Math.Logic.{∥∥₁_elim}
use Rattle.std.proofs.Math.Bridge.{le_prop}
use Rattle.std.proofs.lemmas.List.{get_or_append_left}
use Rattle.std.proofs.lemmas.Bool.{false≢true}
use Rattle.interning.specs.Decode.{Readable, Rooted}
use Rattle.interning.specs.Interned.{Appended, Placed}
use Rattle.interning.specs.Places.{Apart, Each}
use Rattle.interning.proofs.Decode.{rooted_push}
use Rattle.interning.proofs.Places.{apart_told}
use Rattle.memos.proofs.Diagrams.{seen_alike}
use Rattle.memos.specs.declared.diagram.View.{View}
use Rattle.memos.specs.declared.diagram.View.TheVariants.{None, Always, Node as Place}
use Rattle.memos.specs.Diagrams.{seen}
use Rattle.families.specs.Trees.{Tree, none, always, node, is_none, is_always}
use Rattle.diagrams.specs.declared.node.Node.{Node}
use Rattle.diagrams.specs.NodeKeys.{Below, NamesBelow, tree_of, tree_at, node_tree}

-- neither none nor always
abbrev pub Nodal : Tree → Type 0
Nodal t = (is_none t || is_always t) ≡ false

not_none : (t : Tree) → Nodal t → none ≢ t
not_none t p e = false≢true (sym p ∙ sym (ap (λ s. is_none s || is_always s) e))

not_always : (t : Tree) → Nodal t → always ≢ t
not_always t p e = false≢true (sym p ∙ sym (ap (λ s. is_none s || is_always s) e))

pub below_prop : (n : ℕ) (v : View) → IsProp (Below n v)
below_prop n None = λ x y. refl
below_prop n Always = λ x y. refl
below_prop n (Place p) = le_prop

pub below_rise : (m n : ℕ) (v : View) → m ≤ n → Below m v → Below n v
below_rise m n None h b = tt
below_rise m n Always h b = tt
below_rise m n (Place p) h b = omega arith

pub tree_local : (ts us : List Tree) (v : View) → Below (length ts) v → tree_of (ts ++ us) v ≡ tree_of ts v
tree_local ts us None b = refl
tree_local ts us Always b = refl
tree_local ts us (Place p) b = get_or_append_left ts us none p b

-- over different trees of nodes, a name can be told by its tree
pub view_told : (ts : List Tree) → Each Nodal ts → Apart ts → (v w : View) → Below (length ts) v → Below (length ts) w → tree_of ts v ≡ tree_of ts w → v ≡ w
view_told ts each apart None None b c e = refl
view_told ts each apart None Always b c e = let no_way : ◌≡◌ {A = ℕ} 0 1 = cc in absurd (omega arith)
view_told ts each apart None (Place q) b c e = absurd (not_none _ (each q none c) e)
view_told ts each apart Always None b c e = let no_way : ◌≡◌ {A = ℕ} 0 1 = cc in absurd (omega arith)
view_told ts each apart Always Always b c e = refl
view_told ts each apart Always (Place q) b c e = absurd (not_always _ (each q none c) e)
view_told ts each apart (Place p) None b c e = absurd (not_none _ (each p none b) (sym e))
view_told ts each apart (Place p) Always b c e = absurd (not_always _ (each p none b) (sym e))
view_told ts each apart (Place p) (Place q) b c e = ap Place (apart_told ts apart p q none b c e)

node_told : (ts : List Tree) (k k' : Node) → Each Nodal ts → Apart ts → NamesBelow (length ts) k → NamesBelow (length ts) k' → node_tree ts k ≡ node_tree ts k' → k ≡ k'
node_told ts k k' each apart b c e =
    let member : k.member ≡ k'.member = cc in
    let low : tree_at ts k.low ≡ tree_at ts k'.low = cc in
    let high : tree_at ts k.high ≡ tree_at ts k'.high = cc in
    let same_low = seen_alike k.low k'.low (view_told ts each apart _ _ b.0 c.0 low) in
    let same_high = seen_alike k.high k'.high (view_told ts each apart _ _ b.1 c.1 high) in
    λ i. record { member = member i; low = same_low i; high = same_high i }

pub readable : Readable node_tree NamesBelow Nodal
readable = record {
  rises = λ m n k h b. (below_rise m n (seen k.low) h b.0, below_rise m n (seen k.high) h b.1);
  local = λ ts us k b i. node k.member (tree_local ts us (seen k.low) b.0 i) (tree_local ts us (seen k.high) b.1 i);
  makes = λ ts k each b. refl;
  tells = node_told;
}

pub rooted_out : (ks : List Node) → ∥ Rooted NamesBelow ks ∥₁ → Rooted NamesBelow ks
rooted_out ks t p d l = ∥∥₁_elim t (×_prop (below_prop p (seen (slice_index_or ks p d).low)) (below_prop p (seen (slice_index_or ks p d).high))) (λ r. r p d l)

pub rooted_none : (ks : List Node) → ks ≡ [] → ∥ Rooted NamesBelow ks ∥₁
rooted_none ks empty = subst (λ xs. ∥ Rooted NamesBelow xs ∥₁) (sym empty) ∣ (λ p d l. absurd (not-suc-le-zero l)) ∣₁

pub rooted_placed : (cap : ℕ) (ks : List Node) (k : Node) (i : ℕ) (ks' : List Node) → ∥ Rooted NamesBelow ks ∥₁ → NamesBelow (length ks) k → Placed cap ks k i ks' → ∥ Rooted NamesBelow ks' ∥₁
rooted_placed cap ks k i ks' rooted below placed =
    ⊎_elim (λ (e : ks' ≡ ks). subst (λ xs. ∥ Rooted NamesBelow xs ∥₁) (sym e) rooted)
    (λ (a : Appended cap ks k i ks'). subst (λ xs. ∥ Rooted NamesBelow xs ∥₁) (sym a.more) ∣ rooted_push readable ks k (rooted_out ks rooted) below ∣₁)
    placed.change
