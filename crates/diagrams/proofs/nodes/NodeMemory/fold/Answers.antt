use Rattle.std.proofs.Common.{arith}
use Rattle.diagrams.specs.Memory.{trees}
use Rattle.diagrams.proofs.Folds.{folded_more, has_parts, place_value}
use Rattle.diagrams.proofs.nodes.NodeMemory.fold.Goals as goal

pub node-requires : goal.node-requires
node-requires g c =
    has_parts c.args.self.now c.loop-place.place c.key-node.result c.key-node.ensures (g.F.Fold.value c.args.fold.now) c.loop-place.cells c.loop-place.invariant _ _ c.value_of-low.ensures c.value_of-high.ensures

pub loop-place-preserved : goal.loop-place-preserved
loop-place-preserved g c =
    let f = g.F.Fold.value c.args.fold.now in
    folded_more f (trees c.args.self.now) c.loop-place.place c.loop-place.cells _ (omega arith) c.loop-place.invariant
    (place_value c.args.self.now c.loop-place.place c.key-node.result c.key-node.ensures f c.loop-place.cells c.loop-place.invariant _ _ c.value_of-low.ensures c.value_of-high.ensures _ c.node.ensures)
