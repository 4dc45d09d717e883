use Rattle.families.proofs.theorems.asked_good_stands.Goals as goal
use Rattle.families.proofs.Workings.{asked_good}

pub returns : goal.returns
returns c = asked_good
