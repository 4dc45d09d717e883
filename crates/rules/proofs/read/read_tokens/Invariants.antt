use Rattle.rules.specs.Readers.{SameReader}
use Rattle.rules.specs.Levels.{levels}
use Rattle.rules.specs.Memory.{view}
use Rattle.rules.specs.Scanners.{left}
use Rattle.rules.proofs.Onward.{Onward}
use Rattle.rules.proofs.read.read_tokens.Given as goal

abbrev pub invariant-loop-lexeme : goal.invariant-loop-lexeme
invariant-loop-lexeme l = record {
  same : SameReader l.initial.reader l.reader;
  onward : Onward l.reader.n l.text (view l.reader.terms.now) l.reader.wants (levels l.reader.nest) (left l.lexeme-iterator);
}
