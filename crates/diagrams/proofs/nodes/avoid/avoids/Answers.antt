use Rattle.std.proofs.Common.{◌≡◌, not, ap, ◌∙◌}
use Rattle.std.proofs.Math.Bool.{not-not}
use Rattle.diagrams.specs.Avoiding.{apart}
use Rattle.diagrams.proofs.Avoids.{apart_members}
use Rattle.diagrams.proofs.nodes.avoid.avoids.Goals as goal

pub returns-clause-members : goal.returns-clause-members
returns-clause-members c q =
    let same : not c.meets.result ≡ apart c.args.group c.args.other = ap not c.meets.ensures.bits ∙ not-not _ in
    rw same (apart_members c.args.group c.args.other q)
