use Rattle.std.proofs.Common.{ap, arith}
use Rattle.interning.specs.Model.{held}
use Rattle.interning.proofs.Sound.{held_fits}
use Rattle.memos.specs.Halves.{paired, half_notes, half_room}
use Rattle.memos.proofs.Halves.{half_fits, half_length, put_noted, put_refused}
use Rattle.memos.proofs.Paired.{asked_absent}
use Rattle.memos.proofs.half.Half.put.Goals as goal

pub returns : goal.returns
returns c =
    let h = c.args.self.now in
    let e = c.in_ok-place.ensures in
    record {
      put = put_noted c.args.question c.args.answer (held h.interner) h.answers.now c.in_ok-place.place (half_fits h) (half_room h) _ h.roomy e.interned;
      room = e.slots.capacity;
    }

pub returns-in_err-place : goal.returns-in_err-place
returns-in_err-place c =
    let h = c.args.self.now in
    let e = c.in_err-place.ensures in
    record {
      put = put_refused (half_room h) (half_notes h) _ c.args.question c.args.answer c.from_residual.result c.from_residual.ensures.0
          (record { full = omega (arith, half_length h, e.interned.full, held_fits h.interner); unasked = asked_absent c.args.question (held h.interner) h.answers.now e.interned.absent })
          (ap (λ qs. paired qs h.answers.now) e.interned.same);
      room = e.slots.capacity;
    }
