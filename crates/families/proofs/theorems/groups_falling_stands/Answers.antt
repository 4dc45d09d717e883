use Rattle.families.proofs.theorems.groups_falling_stands.Goals as goal
use Rattle.families.proofs.Smallest.{listed_falling}

pub returns : goal.returns
returns c = listed_falling
