use Rattle.interning.proofs.Distinct.{distinguishes}
use Rattle.interning.proofs.theory.distinct_stands.Goals as goal

pub returns : goal.returns
returns g c = distinguishes g.row.T.Denot
