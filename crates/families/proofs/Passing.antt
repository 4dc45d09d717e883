-- What a tree passes.
use Rattle.std.proofs.Common.{◌≡◌, ℕ, suc, ◌+◌, ◌<◌, Bool, true, false, ◌&&◌, eqb, sym, refl, ap, ◌∙◌, subst, ⊎_elim, arith}
use Rattle.std.proofs.lemmas.Bool.{eq-eqb, eqb-true, ne_eqb, both_ways, or_cases, or_left, or_right, and_parts, and_from, false≢true}
use Rattle.families.specs.Sets.{Inside, without}
use Rattle.families.specs.Groups.{Member, weight, holds}
use Rattle.families.specs.Trees.{Tree, none, always, node, passes, groups, lists}
use Rattle.families.specs.Good.{Fits, Good}
use Rattle.families.proofs.Bools.{node_mono, refute}
use Rattle.families.proofs.Weights.{holds_zero, holds_add, holds_later}
use Rattle.families.proofs.Listing.{all_each, lists_low, lists_high, lists_cases, lists_below, some_group}

pub passes_mono : (t : Tree) (g h : ℕ → Bool) → Inside g h → passes t g ≡ true → passes t h ≡ true
passes_mono none g h s e = e
passes_mono always g h s e = refl
passes_mono (node v a c) g h s e = node_mono (g v) (h v) (passes a g) (passes a h) (passes c g) (passes c h) (s v) (passes_mono a g h s) (passes_mono c g h s) e

-- only members from the bound on count
pub passes_above : (b : ℕ) (t : Tree) (g h : ℕ → Bool) → Good b t → ((n : ℕ) → Fits b n → g n ≡ h n) → passes t g ≡ passes t h
passes_above b none g h k e = refl
passes_above b always g h k e = refl
passes_above b (node v a c) g h k e =
    let l = passes_above (suc v) a g h k.low (λ n p. e n (omega arith)) in
    let r = passes_above (suc v) c g h k.high (λ n p. e n (omega arith)) in
    let m = e v k.fits in
    cc

-- a group with a member before its own is in g exactly when the member and the rest are
module _ (v n : ℕ) (g : ℕ → Bool) (m : Member v) (p : n < weight v) where
  add_inside : g v ≡ true → Inside (holds n) g → Inside (holds (weight v + n)) g
  add_inside e s u h = ⊎_elim (λ q. ap g (eqb-true u v q) ∙ e) (λ q. s u q) (or_cases (eqb u v) (holds n u) (sym (holds_add n v u m p) ∙ h))

  inside_here : Inside (holds (weight v + n)) g → g v ≡ true
  inside_here s = s v (holds_add n v v m p ∙ or_left (eqb v v) (holds n v) (eq-eqb v v refl))

  inside_rest : Inside (holds (weight v + n)) g → Inside (holds n) g
  inside_rest s u h = s u (holds_add n v u m p ∙ or_right (eqb u v) (holds n u) h)

pub lists_passes : (b : ℕ) (t : Tree) (n : ℕ) (g : ℕ → Bool) → Good b t → lists t n ≡ true → Inside (holds n) g → passes t g ≡ true
lists_passes b none n g k e s = e
lists_passes b always n g k e s = refl
lists_passes b (node v a c) n g k e s = ⊎_elim
    (λ l. or_left (passes a g) (g v && passes c g) (lists_passes (suc v) a n g k.low l s))
    (λ r.
    let p = lists_below v c r.0 k.high r.1 in
    let i = subst (λ z. Inside (holds z) g) r.2 s in
    let there = lists_passes (suc v) c r.0 g k.high r.1 (inside_rest v r.0 g k.fits.1 p i) in
    or_right (passes a g) (g v && passes c g) (and_from (g v) (passes c g) (inside_here v r.0 g k.fits.1 p i) there))
    (lists_cases v a c n e)

pub passes_lists : (b : ℕ) (t : Tree) (g : ℕ → Bool) → Good b t → passes t g ≡ true → (n : ℕ) × (lists t n ≡ true) × Inside (holds n) g
passes_lists b none g k e = absurd (false≢true e)
passes_lists b always g k e = (0, refl, λ u h. absurd (both_ways (holds 0 u) (holds_zero u) h))
passes_lists b (node v a c) g k e = ⊎_elim
    (λ p. let r = passes_lists (suc v) a g k.low p in (r.0, lists_low v a c r.0 r.1, r.2))
    (λ p.
    let q = and_parts (g v) (passes c g) p in
    let r = passes_lists (suc v) c g k.high q.1 in
    (weight v + r.0, lists_high v a c r.0 r.1, add_inside v r.0 g k.fits.1 (lists_below v c r.0 k.high r.1) q.0 r.2))
    (or_cases (passes a g) (g v && passes c g) e)

pub lists_self : (b : ℕ) (t : Tree) (n : ℕ) → Good b t → lists t n ≡ true → passes t (holds n) ≡ true
lists_self b t n k e = lists_passes b t n (holds n) k e (λ u h. h)

-- a member below the bound changes nothing
pub passes_later : (v n : ℕ) (t : Tree) → Good (suc v) t → passes t (holds (weight v + n)) ≡ passes t (holds n)
passes_later v n t k = passes_above (suc v) t (holds (weight v + n)) (holds n) k (λ u p. holds_later n v u p.0)

pub passes_low : (b v : ℕ) (a c : Tree) (g : ℕ → Bool) → Good b (node v a c) → passes (node v a c) (without v g) ≡ passes a g
passes_low b v a c g k =
    let l = passes_above (suc v) a (without v g) g k.low (λ n p. let e = ne_eqb n v (λ q. omega arith) in cc) in
    let e = eq-eqb v v refl in
    grind arith

-- a node does not pass the empty set
pub node_empty : (b v : ℕ) (a c : Tree) → Good b (node v a c) → passes (node v a c) (λ n. false) ≡ false
node_empty b v a c k =
    let r = some_group (suc v) c k.high k.some in
    let f = all_each (λ n. passes a (holds n) ≡ false) (groups c) k.apart r.0 r.1 in
    let l = refute (passes a (λ n. false)) (λ e. both_ways (passes a (holds r.0)) f (passes_mono a (λ n. false) (holds r.0) (λ n p. absurd (false≢true p)) e)) in
    grind arith
