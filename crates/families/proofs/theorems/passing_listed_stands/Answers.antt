use Rattle.families.proofs.theorems.passing_listed_stands.Goals as goal
use Rattle.families.proofs.Smallest.{passing_listed}

pub returns : goal.returns
returns c = passing_listed
