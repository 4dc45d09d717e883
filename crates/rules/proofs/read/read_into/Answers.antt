use Rattle.std.proofs.Common.{sym}
use Rattle.rules.proofs.Comings.{comes_held}
use Rattle.rules.proofs.read.read_into.Goals as goal

pub returns : goal.returns
returns c = record {
  comes = comes_held c.read_tokens.new.terms c.args.n c.args.text.now c.in_ok-place.place c.if-text-gt-LONGEST.false c.in_ok-place.ensures.reads (sym c.if-is_overfull.ensures);
  room = c.in_ok-place.ensures.room;
}
