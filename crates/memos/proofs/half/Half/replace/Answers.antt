use Rattle.std.proofs.Common.{◌≡◌, false, sym, refl, ap}
use Rattle.interning.specs.Model.{held}
use Rattle.memos.specs.Halves.{half_notes}
use Rattle.memos.specs.Noting.{asked}
use Rattle.memos.proofs.Halves.{half_fits, asked_stands}
use Rattle.memos.proofs.Noting.{answered_unasked}
use Rattle.memos.proofs.Paired.{asked_absent, paired_set}
use Rattle.memos.proofs.half.Half.replace.Goals as goal

pub returns : goal.returns
returns c =
    let h = c.args.self.now in
    let q = c.args.question in
    let found = c.in-Some.ensures in
    record {
      asked = sym (asked_stands q c.args.answer (held h.interner) h.answers.now c.in-Some.place (half_fits h) found.0);
      notes = paired_set q c.args.answer (held h.interner) h.answers.now c.in-Some.place q found.0.within (found.0.here q) found.1;
      room = refl;
    }

pub returns-in_default : goal.returns-in_default
returns-in_default c =
    let h = c.args.self.now in
    let none = asked_absent c.args.question (held h.interner) h.answers.now c.in_default.ensures in
    record { asked = sym none; notes = sym (answered_unasked c.args.question c.args.answer (half_notes h) none); room = refl }

pub returns-then-is_empty : goal.returns-then-is_empty
unfolding asked
returns-then-is_empty c =
    let h = c.args.self.now in
    let none : asked c.args.question (half_notes h) ≡ false = ap (asked c.args.question) (c.if-is_empty.ensures.0 refl) in
    record { asked = sym none; notes = sym (answered_unasked c.args.question c.args.answer (half_notes h) none); room = refl }
