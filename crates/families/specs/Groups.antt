-- Groups of members, and their numbers.
use Rattle.std.specs.Prelude.{◌≡◌, ℕ, zero, suc, ◌+◌, ◌-◌, ◌/◌, ◌%◌, ◌^◌, ◌<◌, ◌≤◌, Bool, cond, ◌&&◌, List, [], ◌∷◌, ◌==◌, nat_le}
use Rattle.std.specs.List.{AllByRecursion}

-- v is a member
abbrev pub Member : ℕ → Type 0
Member v = (1 ≤ v) × (v ≤ 48)

-- the same as a test
abbrev pub is_member : ℕ → Bool
is_member v = nat_le 1 v && nat_le v 48

-- what a member adds to the number of its group
unfoldable pub weight : ℕ → ℕ
weight v = 2 ^ (48 - v)

-- n is the number of a group
abbrev pub Group : ℕ → Type 0
Group n = n < 2 ^ 48

-- v is a member of the group with the number n
abbrev pub holds : ℕ → ℕ → Bool
holds n v = is_member v && n / weight v % 2 == 1

-- the weights of those of the last k members that are in g, added up
unfoldable pub total : ℕ → (ℕ → Bool) → ℕ
total zero g = 0
total (suc k) g = cond (g (48 - k)) (weight (48 - k)) 0 + total k g

-- the number of a group: the sum of 2 ^ (48 - v) over its members v
abbrev pub number : (ℕ → Bool) → ℕ
number g = total 48 g

-- each of the list is below those before it, so none stands twice
abbrev pub Falling : List ℕ → Type 0
Falling [] = Unit {0}
Falling (n ∷ ns) = AllByRecursion (λ m. m < n) ns × Falling ns

-- a group and its number give each other back
pub record Numbering : Type 0 where
  pub group : (g : ℕ → Bool) → Group (number g)
  pub members : (g : ℕ → Bool) (v : ℕ) → holds (number g) v ≡ (is_member v && g v)
  pub again : (n : ℕ) → Group n → number (holds n) ≡ n
