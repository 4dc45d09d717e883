use Rattle.diagrams.proofs.nodes.NodeMemory.+first_below.Given as goal

abbrev pub decreases-first_below : goal.decreases-first_below
decreases-first_below l = l.diagram.code
