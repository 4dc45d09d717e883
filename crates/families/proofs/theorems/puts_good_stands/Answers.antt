use Rattle.families.proofs.theorems.puts_good_stands.Goals as goal
use Rattle.families.proofs.Workings.{puts_good}

pub returns : goal.returns
returns c = puts_good
