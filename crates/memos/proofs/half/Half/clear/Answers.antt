use Rattle.std.proofs.Common.{ap}
use Rattle.memos.specs.Halves.{paired}
use Rattle.memos.proofs.half.Half.clear.Goals as goal

pub returns : goal.returns
unfolding paired
returns c = record { notes = ap (λ qs. paired qs c.args.self.now.answers.now) c.clear.ensures.held; room = c.clear.ensures.slots.capacity }
