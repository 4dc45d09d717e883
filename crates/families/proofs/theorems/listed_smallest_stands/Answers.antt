use Rattle.families.proofs.theorems.listed_smallest_stands.Goals as goal
use Rattle.families.proofs.Smallest.{listed_smallest}

pub returns : goal.returns
returns c = listed_smallest
