use Rattle.std.proofs.Common.{rules}
use Rattle.diagrams.proofs.Merely.{closed_out, right_out}
use Rattle.diagrams.proofs.Working.{closed_at, grows_at, right_at}
use Rattle.diagrams.proofs.solve.solve.Goals as goal

pub returns-clause-notes : goal.returns-clause-notes
returns-clause-notes g c = right_at _ _ _ _ (search rules) (search rules) (right_out _ _ c.run-answer.new.self.right)

pub returns-clause-closed : goal.returns-clause-closed
returns-clause-closed g c k =
    let s = c.run-answer.new.self in
    closed_at _ _ _ _ (search rules) (search rules) (closed_out _ _ (right_out _ _ s.right) s.closed (search rules))

pub returns-clause-grows : goal.returns-clause-grows
returns-clause-grows g c q a = grows_at _ _ _ q (search rules) (c.run-answer.ensures.grows q a)
