use Rattle.std.proofs.Common.{arith}
use Rattle.memos.proofs.Arranged.{arranged_none}
use Rattle.memos.proofs.keeping.KeepingMemo.open.Goals as goal

pub invariant_of-result : goal.invariant_of-result
invariant_of-result c =
    let f = c.open.ensures in
    let s = c.open-2.ensures in
    record {
      larger = omega (arith, f.room, s.room, c.split_at_mut-first_slots.ensures.front_len, c.split_at_mut-second_slots.ensures.front_len);
      even = omega (arith, f.room, s.room, c.split_at_mut-first_slots.ensures.front_len, c.split_at_mut-second_slots.ensures.front_len);
      arranged = ∣ arranged_none _ _ _ _ f.notes s.notes ∣₁;
    }
