use Rattle.std.proofs.Common.{arith}
use Rattle.memos.proofs.Arranged.{arranged_none}
use Rattle.memos.proofs.keeping.noting.KeepingMemoMemo.forget.Goals as goal

pub invariant_of-self : goal.invariant_of-self
invariant_of-self c =
    let f = c.clear.ensures in
    let s = c.clear-2.ensures in
    record {
      larger = omega (arith, f.room, s.room, c.args.self.now.larger);
      even = omega (arith, f.room, s.room, c.args.self.now.even);
      arranged = ∣ arranged_none _ _ _ _ f.notes s.notes ∣₁;
    }
