-- The nodes in the trees of roots: with a node, those in its two parts.
use Rattle.std.proofs.Common.{ℕ, zero, suc, ◌<◌, List, [], ◌∷◌, length, get_or, refl, subst, inl, inr, ⊎_elim, le_of_suc-le-suc, not-suc-le-zero, arith}
use Rattle.std.proofs.lemmas.Bool.{true≢false}
use Rattle.interning.specs.Distinct.{◌∈◌, Within}
use Rattle.interning.proofs.Members.{in_left, in_right, in_either}
use Rattle.memos.specs.declared.diagram.Diagram.{Diagram}
use Rattle.families.specs.Trees.{Tree, none, always, node}
use Rattle.diagrams.specs.NodeKeys.{tree_at}
use Rattle.diagrams.specs.Collecting.{nodes_in, reached}
use Rattle.diagrams.proofs.NodeTrees.{Nodal}

pub node_itself : (t : Tree) → Nodal t → t ∈ nodes_in t
node_itself none p = absurd (true≢false p)
node_itself always p = absurd (true≢false p)
node_itself (node v l h) p = inl refl

pub low_inside : (v : ℕ) (l h : Tree) → Within (nodes_in l) (nodes_in (node v l h))
low_inside v l h s m = inr (in_left (nodes_in l) (nodes_in h) s m)

pub high_inside : (v : ℕ) (l h : Tree) → Within (nodes_in h) (nodes_in (node v l h))
high_inside v l h s m = inr (in_right (nodes_in l) (nodes_in h) s m)

-- the nodes in a node of a tree are in the tree
pub inside_again : (u t : Tree) → t ∈ nodes_in u → Within (nodes_in t) (nodes_in u)
inside_again none t i s m = absurd i
inside_again always t i s m = absurd i
inside_again (node v l h) t (inl e) s m = subst (λ x. s ∈ nodes_in x) e m
inside_again (node v l h) t (inr i) s m =
    ⊎_elim (λ (a : t ∈ nodes_in l). low_inside v l h s (inside_again l t a s m)) (λ (b : t ∈ nodes_in h). high_inside v l h s (inside_again h t b s m)) (in_either (nodes_in l) (nodes_in h) t i)

pub reached_again : (ts : List Tree) (rs : List Diagram) (t : Tree) → t ∈ reached ts rs → Within (nodes_in t) (reached ts rs)
reached_again ts [] t i s m = absurd i
reached_again ts (d ∷ ds) t i s m =
    ⊎_elim (λ (a : t ∈ nodes_in (tree_at ts d)). in_left (nodes_in (tree_at ts d)) (reached ts ds) s (inside_again (tree_at ts d) t a s m))
    (λ (b : t ∈ reached ts ds). in_right (nodes_in (tree_at ts d)) (reached ts ds) s (reached_again ts ds t b s m))
    (in_either (nodes_in (tree_at ts d)) (reached ts ds) t i)

pub reached_root : (ts : List Tree) (rs : List Diagram) (i : ℕ) (d : Diagram) → i < length rs → Within (nodes_in (tree_at ts (get_or rs i d))) (reached ts rs)
reached_root ts [] i d l s m = absurd (not-suc-le-zero l)
reached_root ts (r ∷ rs) zero d l s m = in_left (nodes_in (tree_at ts r)) (reached ts rs) s m
reached_root ts (r ∷ rs) (suc i) d l s m = in_right (nodes_in (tree_at ts r)) (reached ts rs) s (reached_root ts rs i d (le_of_suc-le-suc l) s m)

pub reached_from : (ts : List Tree) (rs : List Diagram) (d : Diagram) (s : Tree) → s ∈ reached ts rs → (i : ℕ) × (i < length rs) × (s ∈ nodes_in (tree_at ts (get_or rs i d)))
reached_from ts [] d s m = absurd m
reached_from ts (r ∷ rs) d s m =
    ⊎_elim (λ (a : s ∈ nodes_in (tree_at ts r)). (0, omega arith, a))
    (λ (b : s ∈ reached ts rs). let o = reached_from ts rs d s b in (suc o.0, omega (arith, o.1), o.2))
    (in_either (nodes_in (tree_at ts r)) (reached ts rs) s m)
