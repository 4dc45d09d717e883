use Rattle.std.proofs.Common.{◌+◌, arith}
use Rattle.memos.specs.Halves.{half_room}
use Rattle.memos.proofs.Arranged.{arranged_out}
use Rattle.memos.proofs.Turning.{after_first, first_arranged, first_sound, first_holding, second_arranged, second_sound, second_holding}
use Rattle.memos.proofs.keeping.KeepingMemo.turn.Goals as goal

pub invariant_of-self : goal.invariant_of-self
invariant_of-self c =
    let m = c.args.self.now in
    let e = c.restart.ensures in
    record {
      larger = omega (arith, e.room, m.larger);
      even = omega (arith, e.room, m.even);
      arranged = ∣ first_arranged c.args.question c.args.answer m.current m.whole _ _ _ _ (arranged_out m.current m.arranged) c.requires.crowded c.requires.unasked _ e.notes _ ∣₁;
    }

pub returns-in-First : goal.returns-in-First
returns-in-First c =
    let m = c.args.self.now in
    let e = c.restart.ensures in
    let arr = arranged_out m.current m.arranged in
    record {
      true_to = first_sound c.args.question c.args.answer m.current m.whole _ _ _ _ arr c.requires.crowded c.requires.unasked _ e.notes;
      holding = first_holding c.args.question c.args.answer m.current m.whole _ _ _ _ arr c.requires.crowded c.requires.unasked _ e.notes m.larger m.even c.in-First.ensures;
      room = λ i. e.room i + half_room m.second;
    }

pub invariant_of-self-in-Second : goal.invariant_of-self-in-Second
invariant_of-self-in-Second c =
    let m = c.args.self.now in
    let e = c.restart-in-Second.ensures in
    let turn = after_first m.current m.whole _ _ _ _ c.in-Second.ensures (arranged_out m.current m.arranged) c.requires.crowded in
    record {
      larger = omega (arith, e.room, m.larger);
      even = omega (arith, e.room, m.even);
      arranged = ∣ second_arranged c.args.question c.args.answer m.whole c.is_empty.result _ _ _ _ _ m.current c.in-Second.ensures turn.0 c.requires.unasked c.is_empty.ensures turn.2 e.notes _ turn.1 ∣₁;
    }

pub returns-in-Second : goal.returns-in-Second
returns-in-Second c =
    let m = c.args.self.now in
    let e = c.restart-in-Second.ensures in
    let turn = after_first m.current m.whole _ _ _ _ c.in-Second.ensures (arranged_out m.current m.arranged) c.requires.crowded in
    record {
      true_to = second_sound c.args.question c.args.answer m.whole c.is_empty.result _ _ _ _ _ m.current c.in-Second.ensures turn.0 c.requires.unasked c.is_empty.ensures turn.2 e.notes;
      holding = second_holding c.args.question c.args.answer m.whole c.is_empty.result _ _ _ _ _ m.current c.in-Second.ensures turn.0 c.requires.unasked c.is_empty.ensures turn.2 e.notes _;
      room = λ i. half_room m.first + e.room i;
    }
