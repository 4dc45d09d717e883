-- Good trees that pass the same groups are one.
use Rattle.std.proofs.Common.{◌≡◌, ℕ, suc, ◌+◌, ◌<◌, Bool, true, false, ◌&&◌, ◌||◌, sym, refl, ◌∙◌, subst, ⊎_elim, arith}
use Rattle.std.proofs.lemmas.Bool.{cases_order, false≢true}
use Rattle.families.specs.Groups.{weight, holds}
use Rattle.families.specs.Trees.{Tree, none, always, node, passes, groups, lists}
use Rattle.families.specs.Good.{Good}
use Rattle.families.proofs.Bools.{same_tests, only_high}
use Rattle.families.proofs.Listing.{all_each, lists_high, lists_above, some_group}
use Rattle.families.proofs.Passing.{passes_mono, lists_passes, passes_lists, lists_self, passes_later, passes_low, node_empty}

-- the two trees pass the same sets
abbrev pub Same : Tree → Tree → Type 0
Same s t = (g : ℕ → Bool) → passes s g ≡ passes t g

-- no group of high contains a group of low
pub good_apart : {b v : ℕ} (a c : Tree) → Good b (node v a c) → (n : ℕ) → lists c n ≡ true → passes a (holds n) ≡ false
good_apart a c k n e = all_each (λ m. passes a (holds m) ≡ false) (groups c) k.apart n e

none_node : (b v : ℕ) (a c : Tree) → Good b (node v a c) → Same none (node v a c) → ⊥
none_node b v a c k same =
    let r = some_group b (node v a c) k refl in
    false≢true (same (holds r.0) ∙ lists_self b (node v a c) r.0 k r.1)

always_node : (b v : ℕ) (a c : Tree) → Good b (node v a c) → Same always (node v a c) → ⊥
always_node b v a c k same = false≢true (sym (node_empty b v a c k) ∙ sym (same (λ n. false)))

-- where v is the smaller top, a set of v and a group of its high tells the two apart
node_before : (b v w : ℕ) (a c d f : Tree) → v < w → Good b (node v a c) → Good b (node w d f) → Same (node v a c) (node w d f) → ⊥
node_before b v w a c d f p k m same =
    let r = some_group (suc v) c k.high k.some in
    let n = r.0 in
    let m' : Good (suc v) (node w d f) = record { fits = omega arith; low = m.low; high = m.high; some = m.some; apart = m.apart } in
    let e1 = lists_self b (node v a c) (weight v + n) k (lists_high v a c n r.1) in
    let e2 = same (holds (weight v + n)) in
    let e3 = passes_later v n (node w d f) m' in
    let e4 = same (holds n) in
    let e5 = lists_above (suc v) c n v k.high r.1 (omega arith) in
    let e6 = good_apart a c k n r.1 in
    apart_from (passes a (holds n)) (holds n v) (passes c (holds n)) e6 e5 (e4 ∙ sym e3 ∙ sym e2 ∙ e1)
  where
    apart_from : (x y z : Bool) → x ≡ false → y ≡ false → (x || (y && z)) ≡ true → ⊥
    apart_from x y z p q e = false≢true (sym (low_false x y z p q) ∙ e)
      where
        low_false : (x y z : Bool) → x ≡ false → y ≡ false → (x || (y && z)) ≡ false
        low_false x y z p q = grind arith

same_low : (b v : ℕ) (a c d f : Tree) → Good b (node v a c) → Good b (node v d f) → Same (node v a c) (node v d f) → Same a d
same_low b v a c d f k m same g = sym (passes_low b v a c g k) ∙ same _ ∙ passes_low b v d f g m

same_high : (b v : ℕ) (a c f : Tree) → Good b (node v a c) → Good b (node v a f) → Same (node v a c) (node v a f) → (g : ℕ → Bool) → passes c g ≡ true → passes f g ≡ true
same_high b v a c f k m same g e =
    let r = passes_lists (suc v) c g k.high e in
    let n = r.0 in
    let e1 = lists_self b (node v a c) (weight v + n) k (lists_high v a c n r.1) in
    let e2 = same (holds (weight v + n)) in
    let e3 = passes_later v n a k.low in
    let e4 = passes_later v n f m.high in
    let e5 = only_high (passes a (holds (weight v + n))) (holds (weight v + n) v) (passes f (holds (weight v + n))) (e3 ∙ good_apart a c k n r.1) (sym e2 ∙ e1) in
    passes_mono f (holds n) g r.2 (sym e4 ∙ e5)

pub canonical : (b : ℕ) (s t : Tree) → Good b s → Good b t → Same s t → s ≡ t
canonical b none none k m same = refl
canonical b none always k m same = absurd (false≢true (same (λ n. false)))
canonical b none (node w d f) k m same = absurd (none_node b w d f m same)
canonical b always none k m same = absurd (false≢true (sym (same (λ n. false))))
canonical b always always k m same = refl
canonical b always (node w d f) k m same = absurd (always_node b w d f m same)
canonical b (node v a c) none k m same = absurd (none_node b v a c k (λ g. sym (same g)))
canonical b (node v a c) always k m same = absurd (always_node b v a c k (λ g. sym (same g)))
canonical b (node v a c) (node w d f) k m same = ⊎_elim
    (λ e.
    let k' = subst (λ u. Good b (node u a c)) e k in
    let same' = subst (λ u. Same (node u a c) (node w d f)) e same in
    let lo = canonical (suc w) a d k'.low m.low (same_low b w a c d f k' m same') in
    let m' = subst (λ u. Good b (node w u f)) (sym lo) m in
    let same'' = subst (λ u. Same (node w a c) (node w u f)) (sym lo) same' in
    let hi = canonical (suc w) c f k'.high m.high (λ g. same_tests (passes c g) (passes f g)
    (same_high b w a c f k' m' same'' g) (same_high b w a f c m' k' (λ h. sym (same'' h)) g)) in
    cc)
    (λ o. absurd (⊎_elim (λ p. node_before b v w a c d f p k m same) (λ p. node_before b w v d f a c p m k (λ g. sym (same g))) o))
    (cases_order v w)

-- good trees with the same groups pass the same
lists_same : (b : ℕ) (s t : Tree) → Good b s → Good b t → ((n : ℕ) → lists s n ≡ lists t n) → (g : ℕ → Bool) → passes s g ≡ true → passes t g ≡ true
lists_same b s t k m e g h = let r = passes_lists b s g k h in lists_passes b t r.0 g m (sym (e r.0) ∙ r.1) r.2

-- so they are one
pub trees_once : (b : ℕ) (s t : Tree) → Good b s → Good b t → ((n : ℕ) → lists s n ≡ lists t n) → s ≡ t
trees_once b s t k m e = canonical b s t k m (λ g. same_tests (passes s g) (passes t g) (lists_same b s t k m e g) (lists_same b t s m k (λ n. sym (e n)) g))
