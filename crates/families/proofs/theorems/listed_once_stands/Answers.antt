use Rattle.families.proofs.theorems.listed_once_stands.Goals as goal
use Rattle.families.proofs.Smallest.{listed_once}

pub returns : goal.returns
returns c = listed_once
