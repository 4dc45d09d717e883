use Rattle.std.proofs.Common.{◌≡◌}
use Rattle.diagrams.specs.Memory.{SameMemory, trees}
use Rattle.diagrams.specs.Solving.{Works, load}
use Rattle.diagrams.specs.Stacks.{stacked}
use Rattle.diagrams.proofs.solve.Solver.run.Given as goal

abbrev pub invariant-loop-step : goal.invariant-loop-step
invariant-loop-step g l =
    Works (g.M.Memo.keeps l.self.memo.now) (trees l.initial.self.nodes.now) (g.M.Memo.notes l.initial.self.memo.now) (trees l.self.nodes.now) (g.M.Memo.notes l.self.memo.now) l.initial.step (stacked l.self.stack) l.self.opened l.step
    × (g.M.Memo.keeps l.self.memo.now → g.M.Memo.keeps l.initial.self.memo.now)
    × SameMemory l.initial.self.nodes.now l.self.nodes.now
    × (l.self.nodes.ghost_name ≡ l.initial.self.nodes.ghost_name)
    × (l.self.memo.ghost_name ≡ l.initial.self.memo.ghost_name)

abbrev pub decreases-loop-step : goal.decreases-loop-step
decreases-loop-step g l = load (stacked l.self.stack) l.step
