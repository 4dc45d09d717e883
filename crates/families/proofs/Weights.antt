-- Which members a number holds.
use Rattle.std.proofs.Common.{◌≡◌, ℕ, suc, ◌+◌, ◌-◌, ◌*◌, ◌/◌, ◌%◌, ◌^◌, ◌<◌, ◌≤◌, true, false, ◌&&◌, ◌||◌, eqb, leb, sym, ap, ◌∙◌, ⊎_elim, arith, pow_pos, pow_mono, pow-add}
use native.Mathlib.Nat.{add-div_left, div-eq_of_lt, add-mul-div_left}
use Rattle.std.proofs.lemmas.Bool.{eq-eqb, ne_eqb, le-leb, leb-true, cases_order, cases_Bool, and_parts, and_from, and_left, and_right, or_left, or_from}
use Rattle.families.specs.Groups.{Member, is_member, weight, holds}

pub weight_pos : (v : ℕ) → 0 < weight v
unfolding weight
weight_pos v = pow_pos (48 - v)

pub weight_step : (v u : ℕ) → v < u → u ≤ 48 → 2 * weight u ≤ weight v
unfolding weight
weight_step v u p q = let h : 2 ^ suc (48 - u) ≤ 2 ^ (48 - v) = pow_mono (omega arith) in omega arith

-- a larger member's weight divides a smaller one's an even number of times
weight_even : (u v : ℕ) → u < v → v ≤ 48 → (k : ℕ) × (weight u ≡ weight v * (2 * k))
unfolding weight
weight_even u v p q =
    let j = v - suc u in
    let e : 48 - u ≡ (48 - v) + suc j = omega arith in
    let d : 2 ^ suc j ≡ 2 * 2 ^ j = omega arith in
    (2 ^ j, ap (λ z. 2 ^ z) e ∙ pow-add 2 (48 - v) (suc j) ∙ ap (λ z. 2 ^ (48 - v) * z) d)

pub weight_mono : (v u : ℕ) → v ≤ u → weight u ≤ weight v
unfolding weight
weight_mono v u p = pow_mono (omega arith)

pub weight_of : (k : ℕ) → k ≤ 48 → weight (48 - k) ≡ 2 ^ k
unfolding weight
weight_of k h = let e : 48 - (48 - k) ≡ k = omega arith in ap (λ z. 2 ^ z) e

pub is_member_lem : (v : ℕ) → Member v → is_member v ≡ true
is_member_lem v h = and_from (leb 1 v) (leb v 48) (le-leb 1 v h.0) (le-leb v 48 h.1)

pub member_fits : (v : ℕ) → is_member v ≡ true → Member v
member_fits v h = let p = and_parts (leb 1 v) (leb v 48) h in (leb-true 1 v p.0, leb-true v 48 p.1)

pub holds_fits : (n v : ℕ) → holds n v ≡ true → Member v
holds_fits n v h = member_fits v (and_parts (is_member v) (eqb (n / weight v % 2) 1) h).0

-- a number below a member's weight does not hold that member
pub holds_below : (n v : ℕ) → n < weight v → holds n v ≡ false
holds_below n v h =
    let e = div-eq_of_lt h in
    let d : n / weight v % 2 ≡ 0 = ap (λ z. z % 2) e in
    and_right (is_member v) (eqb (n / weight v % 2) 1) (ne_eqb (n / weight v % 2) 1 (λ q. omega arith))

pub holds_zero : (v : ℕ) → holds 0 v ≡ false
holds_zero v = holds_below 0 v (weight_pos v)

pub holds_first : (n v : ℕ) → Member v → n < weight v → holds (weight v + n) v ≡ true
holds_first n v p h =
    let a = add-div_left n (weight_pos v) in
    let b = div-eq_of_lt h in
    let c : (weight v + n) / weight v % 2 ≡ 1 = omega arith in
    and_from (is_member v) (eqb ((weight v + n) / weight v % 2) 1) (is_member_lem v p) (eq-eqb ((weight v + n) / weight v % 2) 1 c)

-- a weight more changes no later member
pub holds_later : (n v u : ℕ) → v < u → holds (weight v + n) u ≡ holds n u
holds_later n v u p = ⊎_elim
    (λ m.
    let q = member_fits u m in
    let k = weight_even v u p q.1 in
    let e = add-mul-div_left n (2 * k.0) (weight_pos u) in
    let c : weight v + n ≡ n + weight u * (2 * k.0) = omega (arith, k.1) in
    let d : (n / weight u + 2 * k.0) % 2 ≡ n / weight u % 2 = omega arith in
    ap (λ z. is_member u && eqb (z / weight u % 2) 1) c ∙ ap (λ z. is_member u && eqb (z % 2) 1) e ∙ ap (λ z. is_member u && eqb z 1) d)
    (λ m. and_left (is_member u) (eqb ((weight v + n) / weight u % 2) 1) m ∙ sym (and_left (is_member u) (eqb (n / weight u % 2) 1) m))
    (cases_Bool (is_member u))

-- a member before a number's members is one member more
pub holds_add : (n v u : ℕ) → Member v → n < weight v → holds (weight v + n) u ≡ (eqb u v || holds n u)
holds_add n v u p h = ⊎_elim
    (λ e. ap (holds (weight v + n)) e ∙ holds_first n v p h ∙ sym (or_left (eqb u v) (holds n u) (eq-eqb u v e)))
    (⊎_elim
    (λ l. let s = weight_step u v l p.1 in
    holds_below (weight v + n) u (omega arith) ∙ sym (or_from (eqb u v) (holds n u) (ne_eqb u v (λ q. omega arith)) (holds_below n u (omega arith))))
    (λ l. let d = ne_eqb u v (λ q. omega arith) in holds_later n v u l ∙ sym (ap (λ z. z || holds n u) d)))
    (cases_order u v)
