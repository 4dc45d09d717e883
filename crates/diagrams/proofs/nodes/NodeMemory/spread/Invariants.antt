use Rattle.std.proofs.Common.{ℕ, List}
use Rattle.interning.specs.Model.{held}
use Rattle.memos.specs.declared.diagram.Diagram.{Diagram}
use Rattle.diagrams.specs.Collecting.{ClosedFrom, Copied, Marked, Sparing, copies, marks}
use Rattle.diagrams.specs.Memory.{trees}
use Rattle.diagrams.proofs.nodes.NodeMemory.spread.Given as goal

abbrev pub invariant-loop-place : goal.invariant-loop-place
invariant-loop-place l = record {
  sparing : (rs : List Diagram) → Sparing (trees l.self) rs (marks l.initial.cells) → Sparing (trees l.self) rs (marks l.cells);
  more : (p : ℕ) → Marked (marks l.initial.cells) p → Marked (marks l.cells) p;
  closed : ClosedFrom (held l.self.interner) l.place (marks l.cells);
  copied : Copied (held l.self.interner) (copies l.cells);
}
