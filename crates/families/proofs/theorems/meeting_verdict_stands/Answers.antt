use Rattle.families.proofs.theorems.meeting_verdict_stands.Goals as goal
use Rattle.families.proofs.Verdicts.{meeting_verdict}

pub returns : goal.returns
returns c = meeting_verdict
