use Rattle.families.proofs.theorems.one_tree_stands.Goals as goal
use Rattle.families.proofs.Families.{one_tree}

pub returns : goal.returns
returns c = one_tree
