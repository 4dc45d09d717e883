use Rattle.families.proofs.theorems.turn_smallest_stands.Goals as goal
use Rattle.families.proofs.Stopping.{turn_smallest}

pub returns : goal.returns
returns c = turn_smallest
