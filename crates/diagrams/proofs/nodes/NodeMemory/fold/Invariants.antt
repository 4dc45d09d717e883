use Rattle.diagrams.specs.Folding.{Folded}
use Rattle.diagrams.specs.Memory.{trees}
use Rattle.diagrams.proofs.nodes.NodeMemory.fold.Given as goal

abbrev pub invariant-loop-place : goal.invariant-loop-place
invariant-loop-place g l = Folded (g.F.Fold.value l.fold) (trees l.self) l.place l.cells
