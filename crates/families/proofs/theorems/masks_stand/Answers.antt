use Rattle.families.proofs.theorems.masks_stand.Goals as goal
use Rattle.families.proofs.Common.{masks}

pub returns : goal.returns
returns c = masks
