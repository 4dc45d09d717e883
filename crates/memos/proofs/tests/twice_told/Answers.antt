use Rattle.memos.proofs.Noted.{told_some}
use Rattle.memos.proofs.tests.twice_told.Goals as goal

pub returns : goal.returns
returns g c keeps =
    let recalled = c.recall.ensures.recalled in
    let before = recalled.already keeps in
    told_some _ _ c.args.question c.args.answer c.recall.result recalled.told before (c.note.ensures.noted.new before)
