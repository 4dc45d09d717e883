use Rattle.families.proofs.theorems.witness_listed_stands.Goals as goal
use Rattle.families.proofs.Verdicts.{witness_listed}

pub returns : goal.returns
returns c = witness_listed
