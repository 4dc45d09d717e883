use Rattle.std.proofs.Common.{sym, ◌∙◌}
use Rattle.interning.specs.Model.{held}
use Rattle.interning.proofs.Decode.{length_decode}
use Rattle.rules.specs.TermKeys.{tree}
use Rattle.rules.proofs.terms.TermMemory.len.Goals as goal

pub returns : goal.returns
returns c = c.len.ensures.held ∙ sym (length_decode tree (held c.args.self.now.interner))
