use Rattle.std.proofs.Common.{sym, subst, arith}
use Rattle.interning.specs.Model.{held}
use Rattle.memos.specs.Halves.{half_notes}
use Rattle.memos.specs.Notes.{Told}
use Rattle.memos.proofs.Halves.{half_fits}
use Rattle.memos.proofs.Noting.{unasked}
use Rattle.memos.proofs.Paired.{asked_absent, in_paired}
use Rattle.memos.proofs.half.Half.recall.Goals as goal

pub returns-in_err-place : goal.returns-in_err-place
returns-in_err-place c =
    let h = c.args.self.now in
    let q = c.args.question in
    subst (Told (Unit {0}) (half_notes h) q) (sym c.from_residual.ensures)
    (λ k. unasked q (half_notes h) (asked_absent q (held h.interner) h.answers.now c.in_err-place.ensures))

pub returns : goal.returns
returns c =
    let h = c.args.self.now in
    let stands = c.in_ok-place.ensures.0 in
    in_paired c.args.question (held h.interner) h.answers.now c.in_ok-place.place c.args.question _ stands.within (omega (arith, stands.within, half_fits h)) (stands.here c.args.question)
