use Rattle.std.proofs.Common.{ap, ◌∙◌, arith}
use Rattle.interning.specs.Decode.{decode}
use Rattle.interning.proofs.Decode.{decode_none}
use Rattle.diagrams.specs.NodeKeys.{node_tree}
use Rattle.diagrams.proofs.Built.{good_none}
use Rattle.diagrams.proofs.NodeTrees.{rooted_none}
use Rattle.diagrams.proofs.nodes.NodeMemory.clear.Goals as goal

pub invariant_of-self : goal.invariant_of-self
invariant_of-self c =
    record {
      few = omega (arith, c.args.self.now.few, c.clear.ensures.slots.capacity);
      rooted = rooted_none _ c.clear.ensures.held;
      good = good_none _ c.clear.ensures.held;
    }

pub returns-clause-trees : goal.returns-clause-trees
returns-clause-trees c = ap (decode node_tree) c.clear.ensures.held ∙ decode_none node_tree
