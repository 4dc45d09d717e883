use Rattle.std.proofs.Common.{refl, subst}
use Rattle.diagrams.specs.declared.frames.Frame.TheVariants.{Both as InBoth}
use Rattle.diagrams.specs.Frames.{Awaits}
use Rattle.diagrams.proofs.Begun.{resumes}
use Rattle.diagrams.proofs.frames.resumes.resume_both.Goals as goal

pub returns-in-Low-clause-continues : goal.returns-in-Low-clause-continues
returns-in-Low-clause-continues c ts k t awaits den =
    let a = subst (λ x. Awaits ts (InBoth x) k) c.in-Low.is awaits in
    resumes ts _ _ k t _ a den refl (a.held.1, a.held.3) (a.held, den.within)
