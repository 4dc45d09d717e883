use Rattle.std.proofs.Common.{subst}
use Rattle.interning.specs.Model.{held}
use Rattle.memos.specs.Diagrams.{seen}
use Rattle.diagrams.specs.Building.{NamedNode}
use Rattle.diagrams.proofs.Opened.{opened_named}
use Rattle.diagrams.proofs.nodes.NodeMemory.node.Goals as goal

pub returns-in-Node-clause-opened : goal.returns-in-Node-clause-opened
returns-in-Node-clause-opened c t den =
    let m = c.args.self.now in
    opened_named m (seen c.args.diagram) _ (subst (λ v. NamedNode (held m.interner) v c.key_at.result) c.in-Node.ensures c.key_at.ensures) t den.within den.is
