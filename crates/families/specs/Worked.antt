-- Small families, worked out.
use Rattle.std.specs.Prelude.{◌≡◌, ℕ, List, [], ◌∷◌, map}
use Rattle.families.specs.Sets.{has}
use Rattle.families.specs.Groups.{number}
use Rattle.families.specs.Trees.{Tree, always, node, alone, groups}
use Rattle.families.specs.Questions.{either, both, turn}
use Rattle.families.specs.Outcomes.{outcome, answer}
use Rattle.families.specs.Replacing.{replaced}

-- two families together, and either of them
abbrev pub all : Tree → Tree → Tree
all f g = answer (both f g)

abbrev pub any : Tree → Tree → Tree
any f g = answer (either f g)

-- any two of 1, 2 and 3
abbrev pub majority : Tree
majority = any (all (alone 1) (any (alone 2) (alone 3))) (all (alone 2) (alone 3))

-- rows 1-2 and 3-4: all of a row, and one of each
abbrev pub grid : Tree
grid = all (any (all (alone 1) (alone 2)) (all (alone 3) (alone 4))) (all (any (alone 1) (alone 2)) (any (alone 3) (alone 4)))

-- groups by their members
abbrev pub numbers : List (List ℕ) → List ℕ
numbers xs = map (λ x. number (has x)) xs

pub record Worked : Type 0 where
  pub majority_groups : groups majority ≡ numbers ((1 ∷ 2 ∷ []) ∷ (1 ∷ 3 ∷ []) ∷ (2 ∷ 3 ∷ []) ∷ [])
  pub majority_turn : answer (turn majority) ≡ majority
  pub pair_turn : groups (answer (turn (all (alone 1) (alone 2)))) ≡ numbers ((1 ∷ []) ∷ (2 ∷ []) ∷ [])
  pub grid_groups : groups grid ≡ numbers ((1 ∷ 2 ∷ 3 ∷ []) ∷ (1 ∷ 2 ∷ 4 ∷ []) ∷ (1 ∷ 3 ∷ 4 ∷ []) ∷ (2 ∷ 3 ∷ 4 ∷ []) ∷ [])
  pub grid_turn : groups (answer (turn grid)) ≡ numbers ((1 ∷ 2 ∷ []) ∷ (1 ∷ 3 ∷ []) ∷ (1 ∷ 4 ∷ []) ∷ (2 ∷ 3 ∷ []) ∷ (2 ∷ 4 ∷ []) ∷ (3 ∷ 4 ∷ []) ∷ [])
  pub majority_replaced : groups (replaced majority 3 (all (alone 4) (alone 5))) ≡ numbers ((1 ∷ 2 ∷ []) ∷ (1 ∷ 4 ∷ 5 ∷ []) ∷ (2 ∷ 4 ∷ 5 ∷ []) ∷ [])
  -- the one question that is opened has three answered at sight, and builds one node
  pub either_workings : outcome (either (alone 1) (alone 2)) ≡ record { answer = node 1 (alone 2) always; built = node 1 (alone 2) always ∷ []; asked = either (alone 1) (alone 2) ∷ []; steps = 4 }
