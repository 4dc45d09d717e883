use Rattle.families.proofs.theorems.unfolding_stands.Goals as goal
use Rattle.families.proofs.Solving.{outcome_unfolds}

pub returns : goal.returns
returns c = outcome_unfolds
