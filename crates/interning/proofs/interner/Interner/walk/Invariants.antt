use Rattle.std.proofs.Common.{◌+◌, ◌≤◌}
use Rattle.interning.specs.Chain.{Seeks}
use Rattle.interning.proofs.interner.Interner.walk.Given as goal

abbrev pub invariant-loop : goal.invariant-loop
invariant-loop g l = record {
  left : l.cursor.past + l.counter ≤ l.self.used;
  seeks : Seeks g.K.Key.mark g.K.PartialEq.eq l.slots l.self.used l.key l.cursor.past;
}
