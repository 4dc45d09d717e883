-- What stands at a place of a list is one of its entries.
use Rattle.std.proofs.Common.{ℕ, zero, suc, ◌<◌, List, [], ◌∷◌, length, get_or, refl, inl, inr, le_of_suc-le-suc, not-suc-le-zero}
use Rattle.rules.specs.Members.{◌∈◌}

pub in_from_place : {A : Type 0} (xs : List A) (i : ℕ) (d : A) → i < length xs → get_or xs i d ∈ xs
in_from_place [] i d l = absurd (not-suc-le-zero l)
in_from_place (x ∷ xs) zero d l = inl refl
in_from_place (x ∷ xs) (suc i) d l = inr (in_from_place xs i d (le_of_suc-le-suc l))
