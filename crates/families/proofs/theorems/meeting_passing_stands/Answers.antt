use Rattle.families.proofs.theorems.meeting_passing_stands.Goals as goal
use Rattle.families.proofs.Verdicts.{meeting_passing}

pub returns : goal.returns
returns c = meeting_passing
