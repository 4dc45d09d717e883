use Rattle.std.proofs.Common.{arith}
use Rattle.std.proofs.lemmas.Grind.{common_steps}
use Rattle.families.specs.Trees.{none, always}
use Rattle.families.proofs.Weights.{is_member_lem}
use Rattle.diagrams.specs.Memory.{places, trees}
use Rattle.diagrams.proofs.Built.{single_makes}
use Rattle.diagrams.proofs.Opened.{none_denotes}
use Rattle.diagrams.proofs.Sighted.{always_denotes}
use Rattle.diagrams.proofs.nodes.NodeMemory.single.Goals as goal

pub returns-clause-makes : goal.returns-clause-makes
returns-clause-makes c =
    let m = c.args.self.now in
    let low = none_denotes (trees m) c.none-2.result c.none-2.ensures in
    let high = always_denotes (trees m) c.always.result c.always.ensures in
    single_makes (places m) (trees m) c.args.member c.build.result _ (is_member_lem c.args.member (grind (arith, common_steps, c.if-not-contains.ensures.cases))) (c.build.ensures.joins none always low high)
