-- Worked yards, from the rule's text on.
use Rattle.std.specs.Prelude.{◌≡◌, ℕ, List, [], ◌∷◌, Ok, Err, codes, Result}
use Rattle.rules.specs.declared.faults.RuleFault.{RuleFault}
use Rattle.rules.specs.Terms.{Term}
use Rattle.rules.specs.Outcome as rule
use Rattle.families.specs.Groups.{number}
use Rattle.families.specs.Sets.{has}
use Rattle.families.specs.Trees.{Tree, none, groups}
use Rattle.families.specs.Replacing.{replaced}
use Rattle.families.specs.Worked.{numbers}
use Rattle.diagrams.specs.Listing.{page_bytes}
use Rattle.calls.specs.Works.{family, turned, witnesses}
use Rattle.calls.specs.Sheets.{verdict_number, first, sheet_bytes}

abbrev family_in : Result Term RuleFault → Tree
family_in (Ok t) = family t
family_in (Err f) = none

-- the smallest groups that pass a rule over 48 members, in a memory for 1,024 terms
abbrev pub yard : List ℕ → Tree
yard text = family_in (rule.outcome 48 1024 text)

-- the smallest passing and stopping groups by their members, and the verdict
pub record Yard (text : List ℕ) (passing stopping : List (List ℕ)) (v : ℕ) : Type 0 where
  pub passes : groups (yard text) ≡ numbers passing
  pub stops : groups (turned (yard text)) ≡ numbers stopping
  pub judged : verdict_number (yard text) ≡ v

-- the first group of those that show a family dominated, by its members
abbrev Shown : List ℕ → List ℕ → Type 0
Shown text ws = first (groups (witnesses (yard text))) ≡ number (has ws)

pub record Yards : Type 0 where
  pub one : Yard (codes "1") ((1 ∷ []) ∷ []) ((1 ∷ []) ∷ []) 1
  pub one_sheet : sheet_bytes (yard (codes "1")) ≡ page_bytes (1 ∷ 1 ∷ 1 ∷ 48 ∷ 56 ∷ 64 ∷ 0x0000800000000000 ∷ 0x0000800000000000 ∷ [])
  pub majority : Yard (codes "least 2 (1 2 3)") ((1 ∷ 2 ∷ []) ∷ (1 ∷ 3 ∷ []) ∷ (2 ∷ 3 ∷ []) ∷ []) ((1 ∷ 2 ∷ []) ∷ (1 ∷ 3 ∷ []) ∷ (2 ∷ 3 ∷ []) ∷ []) 1
  -- items count by position
  pub twice_one : groups (yard (codes "least 2 (1 1 2)")) ≡ numbers ((1 ∷ []) ∷ [])
  pub absorbed : sheet_bytes (yard (codes "any(1 all(1 2))")) ≡ sheet_bytes (yard (codes "1"))
  pub clash : Yard (codes "any(1 2)") ((1 ∷ []) ∷ (2 ∷ []) ∷ []) ((1 ∷ 2 ∷ []) ∷ []) 3
  pub dominated : Yard (codes "all(1 2)") ((1 ∷ 2 ∷ []) ∷ []) ((1 ∷ []) ∷ (2 ∷ []) ∷ []) 2
  pub dominated_by : Shown (codes "all(1 2)") (1 ∷ [])
  pub grid : Yard (codes "grid 2 (1 2 3 4)") ((1 ∷ 2 ∷ 3 ∷ []) ∷ (1 ∷ 2 ∷ 4 ∷ []) ∷ (1 ∷ 3 ∷ 4 ∷ []) ∷ (2 ∷ 3 ∷ 4 ∷ []) ∷ [])
      ((1 ∷ 2 ∷ []) ∷ (1 ∷ 3 ∷ []) ∷ (1 ∷ 4 ∷ []) ∷ (2 ∷ 3 ∷ []) ∷ (2 ∷ 4 ∷ []) ∷ (3 ∷ 4 ∷ []) ∷ []) 2
  pub grid_by : Shown (codes "grid 2 (1 2 3 4)") (1 ∷ 2 ∷ [])
  pub replacing : groups (replaced (yard (codes "least 2 (1 2 3)")) 3 (yard (codes "all(4 5)"))) ≡ numbers ((1 ∷ 2 ∷ []) ∷ (1 ∷ 4 ∷ 5 ∷ []) ∷ (2 ∷ 4 ∷ 5 ∷ []) ∷ [])
