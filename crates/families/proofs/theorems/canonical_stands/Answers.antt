use Rattle.families.proofs.theorems.canonical_stands.Goals as goal
use Rattle.families.proofs.Families.{canonical_groups}

pub returns : goal.returns
returns c = canonical_groups
