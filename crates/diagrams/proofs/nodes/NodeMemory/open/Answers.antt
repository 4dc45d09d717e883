use Rattle.std.proofs.Common.{ap, ◌∙◌, arith, length-take}
use Rattle.interning.specs.Decode.{decode}
use Rattle.interning.proofs.Decode.{decode_none}
use Rattle.diagrams.specs.NodeKeys.{node_tree}
use Rattle.diagrams.proofs.Built.{good_none}
use Rattle.diagrams.proofs.NodeTrees.{rooted_none}
use Rattle.diagrams.proofs.nodes.NodeMemory.open.Goals as goal

pub invariant_of-result : goal.invariant_of-result
invariant_of-result c =
    record {
      few = omega (arith, simp length-take at c.open.ensures.capacity);
      rooted = rooted_none _ c.open.ensures.held;
      good = good_none _ c.open.ensures.held;
    }

pub returns-clause-trees : goal.returns-clause-trees
returns-clause-trees c = ap (decode node_tree) c.open.ensures.held ∙ decode_none node_tree
