-- The verdict on a family: do its groups meet, and does a coterie dominate it?
use Rattle.std.specs.Prelude.{◌≡◌, ℕ, ◌≤◌, true, ◌↔◌, List, ◌∷◌, ◌≢◌}
use Rattle.families.specs.Sets.{Inside, Meet}
use Rattle.families.specs.Groups.{holds, Group}
use Rattle.families.specs.Trees.{Tree, none, groups, lists}
use Rattle.families.specs.Good.{Good, Upto}
use Rattle.families.specs.Kinds.{Smallest, Passing, Stopping}
use Rattle.families.specs.Questions.{less, turn}
use Rattle.families.specs.Outcomes.{answer}
use Rattle.families.specs.Coteries.{Coterie, Nondominated}

-- any two groups of the family share a member
abbrev pub Meeting : Tree → Type 0
Meeting f = (m k : ℕ) → lists f m ≡ true → lists f k ≡ true → Meet (holds m) (holds k)

-- it is the same of any two passing groups
abbrev pub MeetingPassing : Type 0
MeetingPassing = (f : Tree) → Good 1 f → Meeting f ↔ ((m k : ℕ) → Group m → Group k → Passing f m → Passing f k → Meet (holds m) (holds k))

-- where no member is above n, the groups meet exactly when they are a coterie on 1 to n
abbrev pub MeetingCoterie : Type 0
MeetingCoterie = (n : ℕ) (f : Tree) → Good 1 f → Upto n f → Meeting f ↔ Coterie n (lists f)

-- all groups meet exactly when each contains a stopping group
abbrev pub MeetingVerdict : Type 0
MeetingVerdict = (f : Tree) → Good 1 f → Meeting f ↔ (answer (less f (answer (turn f))) ≡ none)

-- what is left of f is its groups that share no member with some other
abbrev pub ClashListed : Type 0
ClashListed = (f : Tree) → Good 1 f → (m : ℕ) → (lists (answer (less f (answer (turn f)))) m ≡ true) ↔ ((k : ℕ) × (lists f m ≡ true) × (lists f k ≡ true) × (Meet (holds m) (holds k) → ⊥))

-- a coterie is nondominated exactly when each smallest stopping group contains a passing one
abbrev pub NondominatedVerdict : Type 0
NondominatedVerdict = (n : ℕ) → 1 ≤ n → n ≤ 48 → (f : Tree) → Good 1 f → Coterie n (lists f) → Nondominated n (lists f) ↔ (answer (less (answer (turn f)) f) ≡ none)

-- w is a smallest stopping group that contains no passing group
pub record Witness (f : Tree) (w : ℕ) : Type 0 where
  pub stopping : Smallest (Stopping f) w
  pub fails : (m : ℕ) → Group m → Inside (holds m) (holds w) → Passing f m → ⊥

-- these are just the groups of less(turn f, f)
abbrev pub WitnessListed : Type 0
WitnessListed = (f : Tree) → Good 1 f → (w : ℕ) → (lists (answer (less (answer (turn f)) f)) w ≡ true) ↔ Witness f w

-- if there are any, the first is the largest
abbrev pub FirstWitness : Type 0
FirstWitness = (f : Tree) → Good 1 f → (answer (less (answer (turn f)) f) ≢ none)
    → (w : ℕ) × (ws : List ℕ) × (groups (answer (less (answer (turn f)) f)) ≡ w ∷ ws) × Witness f w × ((m : ℕ) → Witness f m → m ≤ w)
