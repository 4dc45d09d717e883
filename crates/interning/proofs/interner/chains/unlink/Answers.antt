use Rattle.std.proofs.Common.{length, arith, rules}
use Rattle.interning.proofs.Writes.{Emptied, linked_none}
use Rattle.interning.proofs.interner.chains.unlink.Goals as goal

pub returns : goal.returns
returns g c =
    let xs = c.loop-slot.slots in
    let empty : Emptied xs (length xs) = λ k l d. c.loop-slot.invariant k (omega arith) d in
    record { linked = ∣ linked_none g.K.Key.mark xs empty ∣₁; slots = search rules }
