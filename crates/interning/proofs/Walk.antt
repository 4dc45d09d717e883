-- The walk of a chain, over functions of the place. Assumes nothing.
use Rattle.std.proofs.Common.{◌≡◌, ℕ, ◌+◌, ◌%◌, ◌<◌, Bool, true, false, sym, refl, ◌∙◌, subst, ⊎_elim, mod-lt, arith}
use Rattle.std.proofs.lemmas.Bool.{cases_eq, both_ways}
use Rattle.interning.specs.Chain.{Chained, Seeking}
use Rattle.interning.specs.Distinct.{Exact}

-- the laws of a key
pub record Lawful {K : Type 0} (mark : K → ℕ) (equal : K → K → Bool) : Type 0 where
  pub exact : Exact equal
  pub marked : (x y : K) → equal x y ≡ true → mark x ≡ mark y

module _ {K : Type 0} {mark : K → ℕ} (equal : K → K → Bool) {n used : ℕ} {key : ℕ → K} {head next : ℕ → ℕ} (c : Chained mark n used key head next) (k : K) where
  pub seek_start : 0 < n → Seeking mark equal n used key k (head (mark k % n))
  seek_start pos = record {
    home = λ p e. c.home_head (mark k % n) p (mod-lt (mark k) pos) e;
    before = λ p l h e. subst (λ b. p < head b) h (c.first p l);
  }

  pub seek_step : (q : ℕ) → q < used → equal (key q) k ≡ false → Seeking mark equal n used key k (q + 1) → Seeking mark equal n used key k (next q)
  seek_step q l differs s =
      let home = s.home q refl in
      record {
        home = λ p e. c.home_next q p l e ∙ home;
        before = λ p m h e.
            let under : p < q + 1 = s.before p m h e in
            ⊎_elim
            (λ (i : p ≡ q). absurd (both_ways (equal (key q) k) differs (subst (λ x. equal (key x) k ≡ true) i e)))
            (λ (i : p ≡ q → ⊥). c.older p q (omega (arith, i)) l (h ∙ sym home))
            (cases_eq p q);
      }
