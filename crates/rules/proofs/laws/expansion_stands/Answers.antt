use Rattle.rules.proofs.laws.expansion_stands.Goals as goal
use Rattle.rules.proofs.Expansion.{expansion_passes}

pub returns : goal.returns
returns c = expansion_passes
