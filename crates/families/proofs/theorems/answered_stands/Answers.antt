use Rattle.families.proofs.theorems.answered_stands.Goals as goal
use Rattle.families.proofs.Members.{answered}

pub returns : goal.returns
returns c = answered
