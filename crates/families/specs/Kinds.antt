-- Kinds of groups, and the smallest of a kind.
use Rattle.std.specs.Prelude.{◌≡◌, ℕ, Bool, true, ◌↔◌, List}
use Rattle.families.specs.Sets.{has, Inside, Meet}
use Rattle.families.specs.Groups.{Group, holds, Falling}
use Rattle.families.specs.Trees.{Tree, passes, groups, lists}
use Rattle.families.specs.Good.{Good}

-- the group n is of the kind P, and no other part of it is
pub record Smallest (P : ℕ → Type 0) (n : ℕ) : Type 0 where
  pub group : Group n
  pub kind : P n
  pub least : (m : ℕ) → Group m → Inside (holds m) (holds n) → P m → m ≡ n

-- the group passes
abbrev pub Passing : Tree → ℕ → Type 0
Passing t n = passes t (holds n) ≡ true

-- a stopping group shares a member with every passing group
abbrev pub Stopping : Tree → ℕ → Type 0
Stopping t n = (m : ℕ) → Group m → Passing t m → Meet (holds n) (holds m)

-- a set passes exactly when it contains a listed group
abbrev pub PassingListed : Type 0
PassingListed = (t : Tree) → Good 1 t → (g : ℕ → Bool) → (passes t g ≡ true) ↔ ((n : ℕ) × (lists t n ≡ true) × Inside (holds n) g)

-- the list is strictly falling, so no group stands twice
abbrev pub GroupsFalling : Type 0
GroupsFalling = (t : Tree) → Good 1 t → Falling (groups t)

-- it has exactly the smallest passing groups
abbrev pub ListedSmallest : Type 0
ListedSmallest = (t : Tree) → Good 1 t → (n : ℕ) → (lists t n ≡ true) ↔ Smallest (Passing t) n

-- and it is the only falling list that has them
abbrev pub ListedOnce : Type 0
ListedOnce = (t : Tree) → Good 1 t → (ns : List ℕ) → Falling ns → ((n : ℕ) → (has ns n ≡ true) ↔ Smallest (Passing t) n) → ns ≡ groups t
