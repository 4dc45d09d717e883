use Rattle.families.proofs.theorems.tree_family_stands.Goals as goal
use Rattle.families.proofs.Families.{tree_family}

pub returns : goal.returns
returns c = tree_family
