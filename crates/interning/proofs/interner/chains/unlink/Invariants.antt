use Rattle.interning.proofs.Writes.{Emptied}
use Rattle.interning.proofs.interner.chains.unlink.Given as goal

abbrev pub invariant-loop-slot : goal.invariant-loop-slot
invariant-loop-slot g l = Emptied l.slots l.slot-index
