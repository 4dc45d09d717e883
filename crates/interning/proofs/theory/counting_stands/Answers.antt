use Rattle.interning.proofs.Distinct.{counts, same_length}
use Rattle.interning.proofs.theory.counting_stands.Goals as goal

pub returns : goal.returns
returns g c = record { counts = counts g.row.T.Denot; agree = same_length }
