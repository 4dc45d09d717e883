use Rattle.std.proofs.Common.{◌%◌, ◌<◌, length, ap, arith}
use Rattle.interning.proofs.Sound.{linked_out}
use Rattle.interning.proofs.Slots.{starts}
use Rattle.interning.proofs.interner.Interner.newest.Goals as goal

pub returns : goal.returns
returns g c =
    let i = c.args.self.now in
    let n = length i.slots.now in
    let some : 0 < n = grind arith in
    starts g.K.PartialEq.eq (linked_out i.linked) c.args.key (c.hash.result % n) c.index-self-hash.result some (ap (λ h. h % n) c.hash.ensures)
