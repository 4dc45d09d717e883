use Rattle.families.proofs.theorems.members_among_stands.Goals as goal
use Rattle.families.proofs.Members.{members_among}

pub returns : goal.returns
returns c = members_among
