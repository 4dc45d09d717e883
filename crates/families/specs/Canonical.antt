-- Canonical form: one family, one tree.
use Rattle.std.specs.Prelude.{◌≡◌, ℕ, Bool, true}
use Rattle.families.specs.Sets.{Inside}
use Rattle.families.specs.Groups.{Group, holds}
use Rattle.families.specs.Trees.{Tree, passes, lists}
use Rattle.families.specs.Good.{Good}

-- good trees that pass the same groups are equal
abbrev pub Canonical : Type 0
Canonical = (s t : Tree) → Good 1 s → Good 1 t → ((n : ℕ) → Group n → passes s (holds n) ≡ passes t (holds n)) → s ≡ t

-- C, a test on numbers, picks groups of which none contains another
pub record Family (C : ℕ → Bool) : Type 0 where
  pub group : (n : ℕ) → C n ≡ true → Group n
  pub apart : (m n : ℕ) → C m ≡ true → C n ≡ true → Inside (holds m) (holds n) → m ≡ n

-- t is the one good tree whose groups are those that C picks
pub record Diagram (C : ℕ → Bool) (t : Tree) : Type 0 where
  pub good : Good 1 t
  pub listed : (n : ℕ) → lists t n ≡ C n
  pub once : (s : Tree) → Good 1 s → ((n : ℕ) → lists s n ≡ C n) → s ≡ t

-- every family has exactly one good tree
abbrev pub OneTree : Type 0
OneTree = (C : ℕ → Bool) → Family C → (t : Tree) × Diagram C t

-- and every good tree is that of a family
abbrev pub TreeFamily : Type 0
TreeFamily = (t : Tree) → Good 1 t → Family (lists t)
