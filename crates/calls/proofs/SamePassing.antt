-- Where the same groups pass on two shelves, these hold the same.
use Rattle.std.proofs.Common.{◌≡◌, ℕ, ◌<◌, true, false, Some, None, sym, refl, ap, ◌∙◌, arith}
use Rattle.std.proofs.lemmas.List.{ext_get_or}
use Rattle.std.proofs.lemmas.Bool.{false≢true}
use Rattle.families.specs.Groups.{Group, holds, number}
use Rattle.families.specs.Trees.{Tree, passes}
use Rattle.families.specs.Good.{Good, Proper}
use Rattle.families.proofs.Numbers.{number_group}
use Rattle.families.proofs.Families.{passes_number, canonical_groups}
use Rattle.families.proofs.Properness.{proper_full}
use Rattle.calls.specs.Shelves.{Shelves, Stand, Stocked, MayStand, SamePassing, on_shelf, tree_of}
use Rattle.calls.proofs.Stands.{passes_tree}

pub same_tree : (s t : Stand) → Good 1 (tree_of s) → Good 1 (tree_of t) → SamePassing s t → tree_of s ≡ tree_of t
same_tree s t p q h = canonical_groups (tree_of s) (tree_of t) p q (λ n g. sym (passes_tree s (holds n)) ∙ h n g ∙ passes_tree t (holds n))

pub tree_same : (s t : Stand) → tree_of s ≡ tree_of t → SamePassing s t
tree_same s t e n g = passes_tree s (holds n) ∙ ap (λ f. passes f (holds n)) e ∙ sym (passes_tree t (holds n))

-- some group passes a family
some_passes : (t : Tree) → Proper t → ((n : ℕ) → Group n → passes t (holds n) ≡ false) → ⊥
some_passes t p h = false≢true (sym (h (number (λ v. true)) (number_group (λ v. true))) ∙ passes_number 1 t p.good (λ v. true) ∙ proper_full t p)

same_stand : (n : ℕ) (s t : Stand) → MayStand n s → MayStand n t → SamePassing s t → s ≡ t
same_stand n None None m k h = refl
same_stand n None (Some t) m k h = absurd (some_passes t k.0 (λ i g. sym (h i g)))
same_stand n (Some s) None m k h = absurd (some_passes s m.0 h)
same_stand n (Some s) (Some t) m k h = ap Some (same_tree (Some s) (Some t) m.0.good k.0.good h)

pub same_shelves : (n : ℕ) (ss tt' : Shelves) → Stocked n ss → Stocked n tt' → ((i : ℕ) → i < 16 → SamePassing (on_shelf ss i) (on_shelf tt' i)) → ss ≡ tt'
same_shelves n ss tt' k m h = ext_get_or None ss tt' (k.sixteen ∙ sym m.sixteen) (λ i l.
    let below : i < 16 = omega (arith, k.sixteen) in
    same_stand n (on_shelf ss i) (on_shelf tt' i) (k.each i below) (m.each i below) (h i below))
