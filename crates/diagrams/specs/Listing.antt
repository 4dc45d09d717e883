-- The groups of a diagram below a limit.
use Rattle.std.specs.Prelude.{◌≡◌, ℕ, ◌*◌, ◌/◌, ◌%◌, ◌^◌, cond, List, [], ◌∷◌, ◌++◌, length, take, drop, Some, None, filter, Option, nat_lt}

-- the first of a list that is below n, or none; of a falling list it is the largest
abbrev pub first_below : ℕ → List ℕ → Option ℕ
first_below n [] = None
first_below n (g ∷ gs) = cond (nat_lt g n) (Some g) (first_below n gs)

-- a number of 64 bits as eight bytes, the most significant first
abbrev pub group_bytes : ℕ → List ℕ
group_bytes g = (g / 2 ^ 56 % 256) ∷ (g / 2 ^ 48 % 256) ∷ (g / 2 ^ 40 % 256) ∷ (g / 2 ^ 32 % 256) ∷ (g / 2 ^ 24 % 256) ∷ (g / 2 ^ 16 % 256) ∷ (g / 256 % 256) ∷ (g % 256) ∷ []

-- the groups below n, of a list of groups
abbrev pub below : ℕ → List ℕ → List ℕ
below n gs = filter (λ g. nat_lt g n) gs

-- the first of them, as many as there is room for
abbrev pub page : ℕ → ℕ → List ℕ → List ℕ
page n room gs = take room (below n gs)

-- their bytes, one group after the other
abbrev pub page_bytes : List ℕ → List ℕ
page_bytes [] = []
page_bytes (g ∷ gs) = group_bytes g ++ page_bytes gs

-- the page gs stands at the front of the bytes, which are else as they were, and r is the number of its groups
pub record Listed (gs bytes bytes' : List ℕ) (r : ℕ) : Type 0 where
  pub written : bytes' ≡ page_bytes gs ++ drop (8 * length gs) bytes
  pub count : r ≡ length gs
