use Rattle.families.proofs.theorems.cuts_stand.Goals as goal
use Rattle.families.proofs.Cutting.{cuts}

pub returns : goal.returns
returns c = cuts
