use Rattle.families.proofs.theorems.workings_part_stands.Goals as goal
use Rattle.families.proofs.Workings.{workings_part}

pub returns : goal.returns
returns c = workings_part
