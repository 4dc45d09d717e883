use Rattle.interning.specs.Model.{held}
use Rattle.diagrams.specs.Collecting.{Copied, Covers, Sparing, copies, marks}
use Rattle.diagrams.specs.Memory.{trees}
use Rattle.diagrams.proofs.nodes.NodeMemory.mark_roots.Given as goal

abbrev pub invariant-loop-root : goal.invariant-loop-root
invariant-loop-root l = record {
  marked : Sparing (trees l.self) l.roots (marks l.cells) × Covers (trees l.self) l.roots l.root-index (marks l.cells);
  copied : Copied (held l.self.interner) (copies l.cells);
}
