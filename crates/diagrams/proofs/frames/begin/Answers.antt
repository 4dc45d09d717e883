use Rattle.std.proofs.Common.{subst, rules}
use Rattle.families.specs.Questions.{off, on}
use Rattle.diagrams.specs.Asking.{Asks}
use Rattle.diagrams.specs.Memory.{trees}
use Rattle.diagrams.proofs.Begun.{off_asked, off_begins, on_asked, on_begins}
use Rattle.diagrams.proofs.frames.begin.Goals as goal

pub returns-in-Off : goal.returns-in-Off
returns-in-Off c q asks e =
    let ts = trees c.args.nodes.now in
    let u = c.in-Off.away in
    off_begins ts c.in-Off.f u _ q (subst (λ z. Asks ts z q) c.in-Off.is asks) (c.begin_parts.ensures (λ t. off t u) (λ d question is. off_asked ts d u question (search rules)))

pub returns-in-On : goal.returns-in-On
returns-in-On c q asks e =
    let ts = trees c.args.nodes.now in
    let u = c.in-On.away in
    on_begins ts c.in-On.f u _ q (subst (λ z. Asks ts z q) c.in-On.is asks) (c.begin_parts-in-On.ensures (λ t. on t u) (λ d question is. on_asked ts d u question (search rules)))
