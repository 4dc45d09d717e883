use Rattle.families.proofs.theorems.first_witness_stands.Goals as goal
use Rattle.families.proofs.Verdicts.{first_witness}

pub returns : goal.returns
returns c = first_witness
