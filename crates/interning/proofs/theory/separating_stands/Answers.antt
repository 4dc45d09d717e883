use Rattle.interning.proofs.Decode.{separates}
use Rattle.interning.proofs.theory.separating_stands.Goals as goal

pub returns : goal.returns
returns g c = separates g.row.K.Denot g.row.T.Denot
