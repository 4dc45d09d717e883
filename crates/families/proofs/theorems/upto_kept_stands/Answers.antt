use Rattle.families.proofs.theorems.upto_kept_stands.Goals as goal
use Rattle.families.proofs.Members.{upto_kept}

pub returns : goal.returns
returns c = upto_kept
