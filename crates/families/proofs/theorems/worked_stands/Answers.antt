use Rattle.families.proofs.theorems.worked_stands.Goals as goal
use Rattle.families.proofs.Examples.{worked_out}

pub returns : goal.returns
returns c = worked_out
