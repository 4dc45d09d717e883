use Rattle.std.proofs.Common.{ap}
use Rattle.memos.specs.Halves.{paired}
use Rattle.memos.proofs.half.Half.open.Goals as goal

pub returns : goal.returns
unfolding paired
returns c = record { notes = ap (λ qs. paired qs c.args.answers.now) c.open.ensures.held; room = c.open.ensures.capacity }
