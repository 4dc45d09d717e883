use Rattle.families.proofs.theorems.sight_right_stands.Goals as goal
use Rattle.families.proofs.Sights.{sight_right}

pub returns : goal.returns
returns c = sight_right
