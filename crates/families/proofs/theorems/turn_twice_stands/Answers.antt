use Rattle.families.proofs.theorems.turn_twice_stands.Goals as goal
use Rattle.families.proofs.Stopping.{turn_twice}

pub returns : goal.returns
returns c = turn_twice
