use Rattle.std.proofs.Common.{refl, arith}
use Rattle.memos.proofs.Arranged.{arranged_out}
use Rattle.memos.proofs.Trying.{arranged_first, arranged_second, tried_first, tried_second}
use Rattle.memos.proofs.keeping.KeepingMemo.hold.Goals as goal

pub invariant_of-self : goal.invariant_of-self
invariant_of-self c =
    let m = c.args.self.now in
    let e = c.hold_in.ensures in
    record {
      larger = omega (arith, e.room, e.room_other, m.larger);
      even = omega (arith, e.room, e.room_other, m.even);
      arranged = ∣ arranged_first c.args.question c.args.answer m.current m.whole _ _ _ _ _ _ e.room c.hold_in.result c.in-First.is (arranged_out m.current m.arranged) e.shared ∣₁;
    }

pub invariant_of-self-in-Second : goal.invariant_of-self-in-Second
invariant_of-self-in-Second c =
    let m = c.args.self.now in
    let e = c.hold_in-in-Second.ensures in
    record {
      larger = omega (arith, e.room, e.room_other, m.larger);
      even = omega (arith, e.room, e.room_other, m.even);
      arranged = ∣ arranged_second c.args.question c.args.answer m.current m.whole _ _ _ _ _ _ e.room_other _ c.hold_in-in-Second.result c.in-Second.is (arranged_out m.current m.arranged) e.shared ∣₁;
    }

pub returns-in-First : goal.returns-in-First
returns-in-First c =
    let e = c.hold_in.ensures in
    tried_first c.args.question c.args.answer c.args.self.now _ refl refl e.room e.room_other c.hold_in.result c.in-First.is c.in-First.is e.shared

pub returns-in-Second : goal.returns-in-Second
returns-in-Second c =
    let e = c.hold_in-in-Second.ensures in
    tried_second c.args.question c.args.answer c.args.self.now _ refl refl e.room_other e.room c.hold_in-in-Second.result c.in-Second.is c.in-Second.is e.shared
