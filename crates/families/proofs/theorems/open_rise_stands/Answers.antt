use Rattle.families.proofs.theorems.open_rise_stands.Goals as goal
use Rattle.families.proofs.Workings.{open_rise}

pub returns : goal.returns
returns c = open_rise
