use Rattle.calls.proofs.laws.yards_stand.Goals as goal
use Rattle.calls.proofs.YardsWorked.{yards_worked}

pub returns : goal.returns
returns c = yards_worked
