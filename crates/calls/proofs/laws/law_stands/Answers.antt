use Rattle.calls.proofs.laws.law_stands.Goals as goal
use Rattle.calls.proofs.LawHolds.{law}

pub returns : goal.returns
returns c = law
