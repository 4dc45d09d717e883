-- The common bits of two groups.
use mathlib.Core.Path.{◌≡◌, sym, ap, ◌∙◌, subst}
use mathlib.Core.Bool.{Bool, true, false, ◌&&◌}
use mathlib.Core.Logic.{◌⊎◌, inl, inr, ⊎_elim}
use Prim.Native.Nat.{ℕ, zero, suc, ◌-◌, ◌^◌, ◌/◌, ◌%◌, min, ◌≤◌}
use native.Mathlib.Omega.{arith}
use lib.Dec.{T, eqb, eqb_refl}
use lib.Bits.{bit_and, and_step, and_shr, and_le_r}
use Rattle.std.proofs.lemmas.Bool.{eq-eqb, eqb-true, and_parts, and_from, both_ways, cases_Bool, cases_eq}
use Rattle.families.specs.Sets.{Meet}
use Rattle.families.specs.Groups.{is_member, weight, holds, Group}
use Rattle.families.specs.Masks.{Masks}
use Rattle.families.proofs.Bools.{same_tests, refute}
use Rattle.families.proofs.Weights.{holds_fits, holds_zero}
use Rattle.families.proofs.Numbers.{holds_same}

both_odd : (x y : ℕ) → eqb (bit_and x y % 2) 1 ≡ (eqb (x % 2) 1 && eqb (y % 2) 1)
both_odd x y =
    let s = and_step x y in
    let e : bit_and x y % 2 ≡ min (x % 2) (y % 2) = omega arith in
    ap (λ z. eqb z 1) e ∙ same_tests (eqb (min (x % 2) (y % 2)) 1) (eqb (x % 2) 1 && eqb (y % 2) 1)
    (λ h. let d = eqb-true (min (x % 2) (y % 2)) 1 h in and_from (eqb (x % 2) 1) (eqb (y % 2) 1) (eq-eqb (x % 2) 1 (omega arith)) (eq-eqb (y % 2) 1 (omega arith)))
    (λ h. let p = and_parts (eqb (x % 2) 1) (eqb (y % 2) 1) h in let a = eqb-true (x % 2) 1 p.0 in let c = eqb-true (y % 2) 1 p.1 in eq-eqb (min (x % 2) (y % 2)) 1 (omega arith))

and_spread : (m a b : Bool) → (m && (a && b)) ≡ ((m && a) && (m && b))
and_spread m a b = grind arith

pub holds_and : (m n v : ℕ) → holds (bit_and m n) v ≡ (holds m v && holds n v)
unfolding weight
holds_and m n v =
    let k = 48 - v in
    ap (λ z. is_member v && eqb (z % 2) 1) (and_shr m n k) ∙ ap (λ z. is_member v && z) (both_odd (m / 2 ^ k) (n / 2 ^ k))
    ∙ and_spread (is_member v) (eqb (m / 2 ^ k % 2) 1) (eqb (n / 2 ^ k % 2) 1)

-- a test that some number up to b meets, or none does
search_upto : (b : ℕ) (p : ℕ → Bool) → ((v : ℕ) × (p v ≡ true)) ⊎ ((v : ℕ) → v ≤ b → p v ≡ false)
search_upto zero p = ⊎_elim (λ e. inl (0, e)) (λ e. inr (λ v h. let z : v ≡ 0 = omega arith in ap p z ∙ e)) (cases_Bool (p 0))
search_upto (suc b) p = ⊎_elim
    (λ r. inl r)
    (λ r. ⊎_elim (λ e. inl (suc b, e)) (λ e. inr (λ v h. ⊎_elim (λ d. ap p d ∙ e) (λ d. r v (omega arith)) (cases_eq v (suc b)))) (cases_Bool (p (suc b))))
    (search_upto b p)

-- two groups share a member, or have none in common
pub meets_or : (m n : ℕ) → Meet (holds m) (holds n) ⊎ ((v : ℕ) → (holds m v && holds n v) ≡ false)
meets_or m n = ⊎_elim
    (λ r. let p = and_parts (holds m r.0) (holds n r.0) r.1 in inl (r.0, p.0, p.1))
    (λ r. inr (λ v. refute (holds m v && holds n v) (λ e.
    let f = holds_fits m v (and_parts (holds m v) (holds n v) e).0 in
    both_ways (holds m v && holds n v) (r v f.1) e)))
    (search_upto 48 (λ v. holds m v && holds n v))

and_group : (m n : ℕ) → Group n → Group (bit_and m n)
and_group m n p = let h = and_le_r m n in omega arith

pub masks : Masks
masks m n p q = record {
  members = holds_and m n;
  contains = (
    λ e v h. (and_parts (holds m v) (holds n v) (sym (holds_and m n v) ∙ ap (λ z. holds z v) e ∙ h)).0,
    λ s. holds_same (bit_and m n) n (and_group m n q) q (λ v. holds_and m n v ∙ same_tests (holds m v && holds n v) (holds n v)
        (λ h. (and_parts (holds m v) (holds n v) h).1) (λ h. and_from (holds m v) (holds n v) (s v h) h)),
  );
  meets = (
    λ e. ⊎_elim (λ r. r) (λ r. absurd (e (holds_same (bit_and m n) 0 (and_group m n q) (omega arith) (λ v. holds_and m n v ∙ r v ∙ sym (holds_zero v))))) (meets_or m n),
    λ r e. both_ways (holds 0 r.0) (holds_zero r.0) (ap (λ z. holds z r.0) (sym e) ∙ holds_and m n r.0 ∙ and_from (holds m r.0) (holds n r.0) r.1 r.2),
  );
}

pub eq_test : (m n : ℕ) → m ≡ n → T (eqb m n)
eq_test m n e = subst (λ z. T (eqb m z)) e (eqb_refl m)
