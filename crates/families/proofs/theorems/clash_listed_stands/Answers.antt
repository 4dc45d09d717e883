use Rattle.families.proofs.theorems.clash_listed_stands.Goals as goal
use Rattle.families.proofs.Verdicts.{clash_listed}

pub returns : goal.returns
returns c = clash_listed
