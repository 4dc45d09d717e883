use Rattle.std.proofs.Common.{arith}
use Rattle.diagrams.proofs.Counts.{sum_few}
use Rattle.diagrams.proofs.nodes.count.CountFold.node.Goals as goal

pub overflow_add-result : goal.overflow_add-result
overflow_add-result c = omega (arith, sum_few c.args._member c.args.low c.args.high c.requires)
