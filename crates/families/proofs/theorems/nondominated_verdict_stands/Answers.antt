use Rattle.families.proofs.theorems.nondominated_verdict_stands.Goals as goal
use Rattle.families.proofs.Verdicts.{nondominated_verdict}

pub returns : goal.returns
returns c = nondominated_verdict
