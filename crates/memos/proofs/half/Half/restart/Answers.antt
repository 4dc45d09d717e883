use Rattle.std.proofs.Common.{◌∙◌}
use Rattle.memos.proofs.Halves.{put_alone}
use Rattle.memos.proofs.half.Half.restart.Goals as goal

pub returns : goal.returns
returns c =
    let cleared = c.clear.ensures in
    record { notes = put_alone _ _ _ _ c.args.question c.args.answer c.put.result cleared.notes cleared.room c.put.ensures.put; room = c.put.ensures.room ∙ cleared.room }
