use Rattle.diagrams.proofs.nodes.NodeMemory.+descend.Given as goal

abbrev pub decreases-descend : goal.decreases-descend
decreases-descend l = l.diagram.code
