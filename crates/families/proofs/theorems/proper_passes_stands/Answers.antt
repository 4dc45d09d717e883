use Rattle.families.proofs.theorems.proper_passes_stands.Goals as goal
use Rattle.families.proofs.Properness.{proper_passes}

pub returns : goal.returns
returns c = proper_passes
