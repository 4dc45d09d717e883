use Rattle.std.proofs.Common.{sym, ◌∙◌}
use Rattle.interning.specs.Model.{held}
use Rattle.interning.proofs.Decode.{length_decode}
use Rattle.diagrams.specs.NodeKeys.{node_tree}
use Rattle.diagrams.proofs.nodes.NodeMemory.len.Goals as goal

pub returns : goal.returns
returns c = c.len.ensures.held ∙ sym (length_decode node_tree (held c.args.self.now.interner))
