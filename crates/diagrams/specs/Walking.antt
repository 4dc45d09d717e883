-- Walking a diagram: the branches that are still to be walked, and their groups.
use Rattle.std.specs.Prelude.{◌≡◌, ℕ, suc, ◌+◌, ◌*◌, ◌^◌, ◌<◌, ◌≤◌, List, [], ◌∷◌, ◌++◌, map, length}
use Rattle.families.specs.Groups.{weight}
use Rattle.families.specs.Trees.{Tree, groups}
use Rattle.families.specs.Good.{Good}
use Rattle.diagrams.specs.declared.nodes.branch.Branch.{Branch}
use Rattle.diagrams.specs.declared.nodes.branch.Found.{Found}
use Rattle.diagrams.specs.declared.nodes.branch.Found.TheVariants.{Nothing, Group, High}
use Rattle.diagrams.specs.NodeKeys.{tree_at}
use Rattle.diagrams.specs.Collecting.{nodes_in}

-- the groups of a branch: those of its tree, with the members that are gathered
abbrev pub branch_groups : List Tree → Branch → List ℕ
branch_groups ts b = map (λ n. b.gathered + n) (groups (tree_at ts b.diagram))

-- the groups of branches, one branch after the other
abbrev pub to_come : List Tree → List Branch → List ℕ
to_come ts [] = []
to_come ts (b ∷ bs) = branch_groups ts b ++ to_come ts bs

-- a branch above n others: its tree has members above n alone, and its groups are numbers of groups
pub record BranchFits (ts : List Tree) (n : ℕ) (b : Branch) : Type 0 where
  pub above : ℕ
  pub deep : n ≤ above
  pub good : Good (suc above) (tree_at ts b.diagram)
  pub small : b.gathered + weight above ≤ 2 ^ 48

-- the same of every branch
abbrev pub AllFit : List Tree → List Branch → Type 0
AllFit ts [] = Unit {0}
AllFit ts (b ∷ bs) = BranchFits ts (length bs) b × AllFit ts bs

-- how many steps the walk takes at most
abbrev pub steps : List Tree → List Branch → ℕ
steps ts [] = 0
steps ts (b ∷ bs) = 1 + 2 * length (nodes_in (tree_at ts b.diagram)) + steps ts bs

-- from b above bs the walk goes on with the high side above bs': the groups to come stay the same, and fewer steps are left
pub record Forked (ts : List Tree) (b : Branch) (bs : List Branch) (high : Branch) (bs' : List Branch) : Type 0 where
  pub same : to_come ts (high ∷ bs') ≡ to_come ts (b ∷ bs)
  pub fit : AllFit ts bs → AllFit ts (high ∷ bs')
  pub fewer : steps ts (high ∷ bs') < steps ts (b ∷ bs)

-- what a branch above bs comes to
abbrev pub Comes : List Tree → Branch → List Branch → List Branch → Found → Type 0
Comes ts b bs bs' Nothing = (branch_groups ts b ≡ []) × (bs' ≡ bs)
Comes ts b bs bs' Group = (branch_groups ts b ≡ b.gathered ∷ []) × (bs' ≡ bs)
Comes ts b bs bs' (High high) = Forked ts b bs high bs'
