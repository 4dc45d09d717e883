use Rattle.std.proofs.Common.{sym}
use Rattle.memos.proofs.Trying.{shared_put}
use Rattle.memos.proofs.keeping.noting.hold_in.Goals as goal

pub returns : goal.returns
returns c =
    let told = c.if-replace.ensures in
    record {
      shared = shared_put c.args.question c.args.answer c.put.result _ _ _ _ _ (sym told.asked) told.notes c.put.ensures.put;
      room = c.put.ensures.room;
      room_other = told.room;
    }
