-- A group and its number: each gives the other back.
use Rattle.std.proofs.Common.{◌≡◌, ℕ, zero, suc, ◌+◌, ◌-◌, ◌*◌, ◌/◌, ◌%◌, ◌^◌, ◌<◌, ◌≤◌, Bool, true, cond, not, ◌&&◌, eqb, leb, sym, refl, ap, ◌∙◌, subst, ⊎_elim, mod-eq_of_lt, zero-add, arith}
use native.Mathlib.Nat.{mod-one}
use lib.Pow.{mod-pow-add}
use Rattle.std.proofs.lemmas.Bool.{eq-eqb, eqb-true, eqb-false, ne_eqb, lt-leb, cases_order, cases_lt, and_parts, and_from, and_left, and_right, cond_both, cond-true, cond-false}
use Rattle.families.specs.Sets.{without}
use Rattle.families.specs.Groups.{Member, is_member, weight, holds, total, number, Group, Numbering}
use Rattle.families.specs.Good.{Fits}
use Rattle.families.proofs.Weights.{weight_of, is_member_lem, holds_fits, holds_below, holds_zero, holds_first, holds_later}

pub total_below : (k : ℕ) → k ≤ 48 → (g : ℕ → Bool) → total k g < 2 ^ k
unfolding total
total_below zero h g = omega arith
total_below (suc k) h g =
    let i = total_below k (omega arith) g in
    let w = weight_of k (omega arith) in
    cond_both (g (48 - k)) (weight (48 - k)) 0 (λ z. z + total k g < 2 ^ suc k) (λ e. omega arith) (λ e. omega arith)

pub number_group : (g : ℕ → Bool) → Group (number g)
number_group g = total_below 48 (omega arith) g

holds_total : (k : ℕ) → k ≤ 48 → (g : ℕ → Bool) (v : ℕ) → 48 - k < v → holds (total k g) v ≡ (is_member v && g v)
unfolding total
holds_total zero h g v p = holds_zero v ∙ sym (and_left (is_member v) (g v) (and_right (leb 1 v) (leb v 48) (lt-leb v 48 p)))
holds_total (suc k) h g v p =
    let w = weight_of k (omega arith) in
    let b = total_below k (omega arith) g in
    cond_both (g (48 - k)) (weight (48 - k)) 0 (λ z. holds (z + total k g) v ≡ (is_member v && g v))
    (λ e. ⊎_elim
    (λ l. let i = holds_total k (omega arith) g v l in holds_later (total k g) (48 - k) v l ∙ i)
    (λ l.
    let s : v ≡ 48 - k = omega arith in
    let f = holds_first (total k g) (48 - k) (omega arith) (omega arith) in
    subst (λ z. holds (weight (48 - k) + total k g) z ≡ (is_member z && g z)) (sym s) (f ∙ sym (and_from (is_member (48 - k)) (g (48 - k)) (is_member_lem (48 - k) (omega arith)) e)))
    (cases_lt (48 - k) v))
    (λ e. ap (λ z. holds z v) (zero-add (total k g)) ∙ ⊎_elim
    (λ l. holds_total k (omega arith) g v l)
    (λ l.
    let s : v ≡ 48 - k = omega arith in
    holds_below (total k g) v (subst (λ z. total k g < weight z) (sym s) (omega arith)) ∙ sym (and_right (is_member v) (g v) (ap g s ∙ e)))
    (cases_lt (48 - k) v))

-- the number of a set holds the members that are in the set
pub holds_number : (g : ℕ → Bool) (v : ℕ) → holds (number g) v ≡ (is_member v && g v)
holds_number g zero = refl
holds_number g (suc v) = holds_total 48 (omega arith) g (suc v) (omega arith)

low_bits : (k n : ℕ) → n % 2 ^ suc k ≡ (n / 2 ^ k % 2) * 2 ^ k + n % 2 ^ k
low_bits k n = let e : suc k ≡ 1 + k = omega arith in ap (λ z. n % 2 ^ z) e ∙ mod-pow-add n 1 k

total_holds : (k n : ℕ) → k ≤ 48 → total k (holds n) ≡ n % 2 ^ k
unfolding total
total_holds zero n h = sym (mod-one n)
total_holds (suc k) n h =
    let i = total_holds k n (omega arith) in
    let w = weight_of k (omega arith) in
    let b = low_bits k n in
    let d : n / weight (48 - k) % 2 ≡ n / 2 ^ k % 2 = ap (λ z. n / z % 2) w in
    let m = is_member_lem (48 - k) (omega arith) in
    cond_both (holds n (48 - k)) (weight (48 - k)) 0 (λ z. z + total k (holds n) ≡ n % 2 ^ suc k)
    (λ e.
    let q : n / 2 ^ k % 2 ≡ 1 = sym d ∙ eqb-true (n / weight (48 - k) % 2) 1 (and_parts (is_member (48 - k)) (eqb (n / weight (48 - k) % 2) 1) e).1 in
    let p = b ∙ ap (λ z. z * 2 ^ k + n % 2 ^ k) q in
    omega arith)
    (λ e.
    let f = sym (ap (λ z. z && eqb (n / weight (48 - k) % 2) 1) m) ∙ e in
    let q : n / 2 ^ k % 2 ≡ 0 = omega (arith, eqb-false (n / weight (48 - k) % 2) 1 f) in
    let p = b ∙ ap (λ z. z * 2 ^ k + n % 2 ^ k) q in
    omega arith)

-- a group is the number of its members
pub number_holds : (n : ℕ) → Group n → number (holds n) ≡ n
number_holds n h = total_holds 48 n (omega arith) ∙ mod-eq_of_lt h

total_same : (k : ℕ) → k ≤ 48 → (g h : ℕ → Bool) → ((v : ℕ) → Fits (49 - k) v → g v ≡ h v) → total k g ≡ total k h
unfolding total
total_same zero p g h e = refl
total_same (suc k) p g h e =
    let i = total_same k (omega arith) g h (λ v f. e v (omega arith)) in
    let j = e (48 - k) (omega arith) in
    ap (λ z. cond z (weight (48 - k)) 0 + total k g) j ∙ ap (λ z. cond (h (48 - k)) (weight (48 - k)) 0 + z) i

pub number_same : (g h : ℕ → Bool) → ((v : ℕ) → Member v → g v ≡ h v) → number g ≡ number h
number_same g h e = total_same 48 (omega arith) g h (λ v f. e v f.1)

-- groups with the same members are one
pub holds_same : (m n : ℕ) → Group m → Group n → ((v : ℕ) → holds m v ≡ holds n v) → m ≡ n
holds_same m n p q e = sym (number_holds m p) ∙ number_same (holds m) (holds n) (λ v f. e v) ∙ number_holds n q

total_without : (k : ℕ) → k ≤ 48 → (g : ℕ → Bool) (u : ℕ) → Fits (49 - k) u → g u ≡ true → total k g ≡ weight u + total k (without u g)
unfolding total
total_without zero p g u f t = absurd (omega arith)
total_without (suc k) p g u f t = ⊎_elim
    (λ s.
    let a = cond-true (g (48 - k)) (weight (48 - k)) 0 (ap g s ∙ t) in
    let b = cond-false (without u g (48 - k)) (weight (48 - k)) 0 (and_left (not (eqb (48 - k) u)) (g (48 - k)) (ap not (eq-eqb (48 - k) u s))) in
    let c = total_same k (omega arith) g (without u g) (λ v q. sym (ap (λ z. not z && g v) (ne_eqb v u (λ r. omega arith)))) in
    let d = ap weight s in
    omega arith)
    (λ o.
    let i = total_without k (omega arith) g u (omega arith) t in
    let a : without u g (48 - k) ≡ g (48 - k) = ap (λ z. not z && g (48 - k)) (ne_eqb (48 - k) u (λ r. omega arith)) in
    let b = ap (λ z. cond z (weight (48 - k)) 0) a in
    omega arith)
    (cases_order (48 - k) u)

-- a member can be taken out of a group
pub holds_drop : (n u : ℕ) → Group n → holds n u ≡ true → (weight u ≤ n) × ((v : ℕ) → holds (n - weight u) v ≡ without u (holds n) v)
holds_drop n u p h =
    let f = holds_fits n u h in
    let e = total_without 48 (omega arith) (holds n) u (f.0, f) h in
    let d = number_holds n p in
    let q : n - weight u ≡ number (without u (holds n)) = omega arith in
    (omega arith, λ v. ap (λ z. holds z v) q ∙ holds_number (without u (holds n)) v ∙ member_held v)
  where
    member_held : (v : ℕ) → (is_member v && without u (holds n) v) ≡ without u (holds n) v
    member_held v = grind arith

pub numbering : Numbering
numbering = record { group = number_group; members = holds_number; again = number_holds }
