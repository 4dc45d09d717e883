use Rattle.families.proofs.theorems.meeting_coterie_stands.Goals as goal
use Rattle.families.proofs.Verdicts.{meeting_coterie}

pub returns : goal.returns
returns c = meeting_coterie
