use Rattle.std.proofs.Common.{arith}
use Rattle.diagrams.specs.Collecting.{marks, moves}
use Rattle.diagrams.specs.Memory.{trees}
use Rattle.diagrams.proofs.Collects.{collected}
use Rattle.diagrams.proofs.nodes.NodeMemory.collect.Goals as goal

pub returns-clause-collected : goal.returns-clause-collected
returns-clause-collected c =
    let m = c.args.self.now in (
      omega arith,
      collected m (marks c.mark.new.cells) c.mark.ensures.closed c.args.roots.now (trees c.refill.new.self) (moves c.refill.new.cells) c.move_roots.new.roots c.mark.ensures.sparing c.mark.ensures.covers c.refill.ensures.moved c.move_roots.ensures,
    )
