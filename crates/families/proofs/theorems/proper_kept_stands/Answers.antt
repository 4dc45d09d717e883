use Rattle.families.proofs.theorems.proper_kept_stands.Goals as goal
use Rattle.families.proofs.Properness.{proper_kept}

pub returns : goal.returns
returns c = proper_kept
