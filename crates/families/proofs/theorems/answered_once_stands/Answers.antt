use Rattle.families.proofs.theorems.answered_once_stands.Goals as goal
use Rattle.families.proofs.Members.{answered_once}

pub returns : goal.returns
returns c = answered_once
