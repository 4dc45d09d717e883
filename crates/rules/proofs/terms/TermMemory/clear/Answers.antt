use Rattle.std.proofs.Common.{false, ap, ◌∙◌}
use Rattle.interning.specs.Decode.{decode}
use Rattle.interning.proofs.Decode.{decode_none}
use Rattle.rules.specs.TermKeys.{tree}
use Rattle.rules.proofs.terms.TermMemory.clear.Goals as goal

pub returns : goal.returns
returns c = record { view = λ i. record { terms = (ap (decode tree) c.clear.ensures.held ∙ decode_none tree) i; room = c.clear.ensures.slots.capacity i; over = false } }
