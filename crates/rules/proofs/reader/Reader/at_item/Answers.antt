use Rattle.std.proofs.Common.{sym}
use Rattle.rules.proofs.Steps.{word_crowded, word_begun}
use Rattle.rules.proofs.reader.Reader.at_item.Goals as goal

pub returns-then-is_crowded-clause-steps : goal.returns-then-is_crowded-clause-steps
returns-then-is_crowded-clause-steps c fs at = word_crowded _ _ _ fs at c.args.token.place c.args.token.kind c.in-Word.word c.in-Word.is (sym c.if-is_crowded.ensures)

pub returns-else-is_crowded-clause-steps : goal.returns-else-is_crowded-clause-steps
returns-else-is_crowded-clause-steps c fs at =
    word_begun _ _ _ fs at c.args.token.place c.args.token.kind c.in-Word.word c.in-Word.is c.from.result (sym c.if-is_crowded.ensures) c.from.ensures
