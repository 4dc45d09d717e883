use Rattle.std.proofs.Common.{arith}
use Rattle.interning.specs.Model.{held}
use Rattle.interning.proofs.Decode.{length_decode}
use Rattle.diagrams.specs.NodeKeys.{node_tree}
use Rattle.diagrams.proofs.Firsts.{bit_some, member_stands}
use Rattle.diagrams.proofs.nodes.NodeMemory.weighed.Goals as goal

pub returns-in_err-node : goal.returns-in_err-node
returns-in_err-node c =
    let m = c.args.self.now in
    rw c.from_residual.ensures (omega (arith, c.in_err-node.ensures, length_decode node_tree (held m.interner)))

pub returns-in_err-weight : goal.returns-in_err-weight
returns-in_err-weight c =
    let m = c.args.self.now in
    let k = c.in_ok-node.node in
    absurd (bit_some c.bit.result c.from.result k.member c.in_err-weight.was c.bit.ensures c.from.ensures (member_stands m c.args.place k c.in_ok-node.ensures))
