use Rattle.families.proofs.theorems.replacing_stands.Goals as goal
use Rattle.families.proofs.Cutting.{replacing}

pub returns : goal.returns
returns c = replacing
