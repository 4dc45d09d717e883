use Rattle.families.proofs.theorems.founded_anyhow_stands.Goals as goal
use Rattle.families.proofs.Members.{founded_anyhow}

pub returns : goal.returns
returns c = founded_anyhow
