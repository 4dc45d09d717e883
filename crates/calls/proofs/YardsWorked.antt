-- The worked yards: from their trees to groups, verdicts and bytes.
use Rattle.std.proofs.Common.{sym, ap, ◌∙◌, ap₂}
use Rattle.families.specs.Groups.{weight, total}
use Rattle.families.specs.Trees.{groups, alone}
use Rattle.families.specs.Replacing.{replaced}
use Rattle.diagrams.specs.Listing.{page_bytes}
use Rattle.calls.specs.Works.{turned, witnesses}
use Rattle.calls.specs.Sheets.{verdict_number, first, sheet_numbers, sheet_bytes}
use Rattle.calls.specs.Yards.{Yards}
use Rattle.calls.proofs.YardTrees.{one_tree, majority_tree, twice_one_tree, absorbed_tree, clash_tree, dominated_tree, grid_tree, pair_tree, one_turned, majority_turned, clash_turned, dominated_turned, grid_turned, one_judged, majority_judged, clash_judged, dominated_judged, grid_judged, dominated_witnesses, grid_witnesses, majority_replaced}

pub yards_worked : Yards
unfolding weight total
yards_worked = record {
  one = record { passes = ap groups one_tree; stops = ap groups (ap turned one_tree ∙ one_turned); judged = ap verdict_number one_tree ∙ one_judged };
  one_sheet = ap sheet_bytes one_tree ∙ ap₂ (λ v t. page_bytes (sheet_numbers v (groups (alone 1)) (groups t))) one_judged one_turned;
  majority = record { passes = ap groups majority_tree; stops = ap groups (ap turned majority_tree ∙ majority_turned); judged = ap verdict_number majority_tree ∙ majority_judged };
  twice_one = ap groups twice_one_tree;
  absorbed = ap sheet_bytes (absorbed_tree ∙ sym one_tree);
  clash = record { passes = ap groups clash_tree; stops = ap groups (ap turned clash_tree ∙ clash_turned); judged = ap verdict_number clash_tree ∙ clash_judged };
  dominated = record { passes = ap groups dominated_tree; stops = ap groups (ap turned dominated_tree ∙ dominated_turned); judged = ap verdict_number dominated_tree ∙ dominated_judged };
  dominated_by = ap (λ t. first (groups t)) (ap witnesses dominated_tree ∙ dominated_witnesses);
  grid = record { passes = ap groups grid_tree; stops = ap groups (ap turned grid_tree ∙ grid_turned); judged = ap verdict_number grid_tree ∙ grid_judged };
  grid_by = ap (λ t. first (groups t)) (ap witnesses grid_tree ∙ grid_witnesses);
  replacing = ap groups (ap₂ (λ f g. replaced f 3 g) majority_tree pair_tree ∙ majority_replaced);
}
