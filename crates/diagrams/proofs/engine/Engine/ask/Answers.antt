use Rattle.std.proofs.Common.{refl}
use Rattle.diagrams.specs.Asking.{Asks, OperandsHeld, ask_at}
use Rattle.diagrams.specs.Memory.{trees}
use Rattle.diagrams.proofs.Engines.{operands_good}
use Rattle.diagrams.proofs.Merely.{right_out, closed_out}
use Rattle.diagrams.proofs.engine.Engine.ask.Goals as goal

pub solve-requires-clause-notes : goal.solve-requires-clause-notes
solve-requires-clause-notes g c = right_out _ _ c.args.self.now.right

pub solve-requires-clause-closed : goal.solve-requires-clause-closed
solve-requires-clause-closed g c = closed_out _ _ (right_out _ _ c.args.self.now.right) c.args.self.now.closed

pub solve-requires-clause-asks : goal.solve-requires-clause-asks
solve-requires-clause-asks g c =
    let m = c.args.self.now.nodes in
    let held : OperandsHeld (trees m) c.args.question = c.holds_operands.ensures.0 c.if-not-holds_operands.false in
    (ask_at (trees m) c.args.question, record { held = held; is = refl }, operands_good m c.args.question held)

pub returns-clause-replies : goal.returns-clause-replies
returns-clause-replies g c =
    let m = c.args.self.now.nodes in
    let q = ask_at (trees m) c.args.question in
    let held : OperandsHeld (trees m) c.args.question = c.holds_operands.ensures.0 c.if-not-holds_operands.false in
    let s = c.solve.ensures in
    let asks : Asks (trees m) c.args.question q = record { held = held; is = refl } in
    (held, record { answer = s.answer q asks; opened = λ k. s.opened k q asks; grows = s.grows q asks })
