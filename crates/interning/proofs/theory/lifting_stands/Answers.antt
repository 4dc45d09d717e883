use Rattle.interning.proofs.Decode.{lifts}
use Rattle.interning.proofs.theory.lifting_stands.Goals as goal

pub returns : goal.returns
returns g c = lifts g.row.K.Denot g.row.T.Denot
