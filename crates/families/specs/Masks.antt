-- Groups as masks: containing and meeting are read off the common bits.
use Rattle.std.specs.Prelude.{◌≡◌, ℕ, ◌&&◌, ◌↔◌, ◌≢◌, bit_and}
use Rattle.families.specs.Sets.{Inside, Meet}
use Rattle.families.specs.Groups.{Group, holds}

pub record Common (m n : ℕ) : Type 0 where
  -- the common bits are the common members
  pub members : (v : ℕ) → holds (bit_and m n) v ≡ (holds m v && holds n v)
  pub contains : (bit_and m n ≡ n) ↔ Inside (holds n) (holds m)
  pub meets : (bit_and m n ≢ 0) ↔ Meet (holds m) (holds n)

-- containing is to have all bits of the other in common, meeting to have any
abbrev pub Masks : Type 0
Masks = (m n : ℕ) → Group m → Group n → Common m n
