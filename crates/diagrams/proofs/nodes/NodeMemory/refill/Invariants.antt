use Rattle.std.proofs.Common.{◌≡◌}
use Rattle.diagrams.specs.Collecting.{Moved, copies, marks, moves}
use Rattle.diagrams.specs.Memory.{SameMemory, trees}
use Rattle.diagrams.proofs.nodes.NodeMemory.refill.Given as goal

abbrev pub invariant-loop-place : goal.invariant-loop-place
invariant-loop-place l = record {
  same : SameMemory l.fn.self l.self;
  stay : copies l.cells ≡ copies l.initial.cells;
  moved : Moved (trees l.fn.self) (marks l.initial.cells) l.place (trees l.self) (moves l.cells);
}
