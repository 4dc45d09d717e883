-- Coteries on the members 1 to n, and when one dominates another. A family is given by a test on the numbers of groups.
use Rattle.std.specs.Prelude.{◌≡◌, ℕ, ◌≤◌, Bool, true}
use Rattle.families.specs.Sets.{Inside, Meet}
use Rattle.families.specs.Groups.{holds, Group}

-- m is a group of members from 1 to n
abbrev pub Within : ℕ → ℕ → Type 0
Within n m = Group m × ((v : ℕ) → holds m v ≡ true → v ≤ n)

-- nonempty groups of members 1 to n, none inside another, any two sharing a member
pub record Coterie (n : ℕ) (C : ℕ → Bool) : Type 0 where
  pub within : (m : ℕ) → C m ≡ true → Within n m
  pub full : (m : ℕ) → C m ≡ true → (v : ℕ) × (holds m v ≡ true)
  pub apart : (m k : ℕ) → C m ≡ true → C k ≡ true → Inside (holds m) (holds k) → m ≡ k
  pub meeting : (m k : ℕ) → C m ≡ true → C k ≡ true → Meet (holds m) (holds k)

-- C is another family than D, and each group of D contains one of C
pub record Dominates (C D : ℕ → Bool) : Type 0 where
  pub other : ((m : ℕ) → C m ≡ D m) → ⊥
  pub covers : (m : ℕ) → D m ≡ true → (k : ℕ) × (C k ≡ true) × Inside (holds k) (holds m)

-- no coterie on the members 1 to n dominates C
abbrev pub Nondominated : ℕ → (ℕ → Bool) → Type 0
Nondominated n C = (D : ℕ → Bool) → Coterie n D → Dominates D C → ⊥
