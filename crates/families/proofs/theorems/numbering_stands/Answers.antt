use Rattle.families.proofs.theorems.numbering_stands.Goals as goal
use Rattle.families.proofs.Numbers.{numbering}

pub returns : goal.returns
returns c = numbering
