use Rattle.families.proofs.theorems.built_good_stands.Goals as goal
use Rattle.families.proofs.Workings.{built_good}

pub returns : goal.returns
returns c = built_good
