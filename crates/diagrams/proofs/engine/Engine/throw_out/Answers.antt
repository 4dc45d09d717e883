use Rattle.std.proofs.Common.{sym, subst}
use Rattle.interning.specs.Places.{Kept}
use Rattle.interning.proofs.Places.{kept_same}
use Rattle.diagrams.specs.Memory.{trees}
use Rattle.diagrams.proofs.Engines.{right_stays, closed_stays}
use Rattle.diagrams.proofs.engine.Engine.throw_out.Goals as goal

-- where it is refused nothing changes
pub invariant_of-self : goal.invariant_of-self
invariant_of-self g c =
    let e = c.args.self.now in
    let kept : Kept (trees e.nodes) (trees c.collect.new.self) = subst (Kept (trees e.nodes)) (sym c.in_err-collect.ensures.collected.1) (kept_same (trees e.nodes)) in
    record { right = right_stays kept _ e.right; closed = closed_stays kept _ e.right e.closed }
