use Rattle.std.proofs.Common.{false, ap, ◌∙◌}
use Rattle.interning.specs.Decode.{decode}
use Rattle.interning.proofs.Decode.{decode_none}
use Rattle.rules.specs.TermKeys.{tree}
use Rattle.rules.proofs.terms.TermMemory.open.Goals as goal

pub returns : goal.returns
returns c = λ i. record { terms = (ap (decode tree) c.open.ensures.held ∙ decode_none tree) i; room = c.open.ensures.capacity i; over = false }
