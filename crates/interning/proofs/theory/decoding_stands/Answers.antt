use Rattle.interning.proofs.Decode.{decodes}
use Rattle.interning.proofs.theory.decoding_stands.Goals as goal

pub returns : goal.returns
returns g c = decodes g.row.K.Denot g.row.T.Denot
