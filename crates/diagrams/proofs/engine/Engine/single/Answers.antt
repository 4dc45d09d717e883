use Rattle.diagrams.proofs.Engines.{makes_kept, right_stays, closed_stays}
use Rattle.diagrams.proofs.engine.Engine.single.Goals as goal

pub invariant_of-self : goal.invariant_of-self
invariant_of-self g c =
    let e = c.args.self.now in
    let kept = makes_kept _ _ _ _ c.single.result _ c.single.ensures.makes in
    record { right = right_stays kept _ e.right; closed = closed_stays kept _ e.right e.closed }
