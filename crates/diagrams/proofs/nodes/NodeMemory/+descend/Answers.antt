use Rattle.std.proofs.Common.{◌<◌, arith}
use Rattle.diagrams.proofs.Avoids.{first_barred, first_high, first_low, high_some, named_falls, named_high, named_low, named_some, named_weight, sum_few}
use Rattle.diagrams.proofs.Opened.{held_named}
use Rattle.diagrams.proofs.nodes.NodeMemory.+descend.Goals as goal
use Rattle.diagrams.proofs.nodes.NodeMemory.+descend.Goals.{else-avoids-via-then-avoids+else-value_of, else-avoids-via-else-avoids}

pub returns-in_err-node-in-Node : goal.returns-in_err-node-in-Node
returns-in_err-node-in-Node t c s den = absurd (held_named c.args.self.now _ c.in-Node.field-0 c.in-Node.ensures den.within c.in_err-node-in-Node.ensures.named)

pub returns-in_err-weight-in-Node : goal.returns-in_err-weight-in-Node
returns-in_err-weight-in-Node t c s den = absurd (named_some c.args.self.now c.args.diagram _ c.in_ok-node-in-Node.ensures.named _ _ c.bit.ensures c.from.ensures c.in_err-weight-in-Node.was)

pub descend-requires : goal.descend-requires
descend-requires t c =
    let k = c.in_ok-node-in-Node.node in
    let falls : k.high.code < t = omega (arith, c.decreases, (named_falls c.args.self.now c.args.diagram k c.in_ok-node-in-Node.ensures.named).1) in
    (falls, c.requires)

pub returns-in_err-rest-in-Node : goal.returns-in_err-rest-in-Node
returns-in_err-rest-in-Node t c s den =
    let m = c.args.self.now in
    let d = c.args.diagram in
    let k = c.in_ok-node-in-Node.node in
    let named = c.in_ok-node-in-Node.ensures.named in
    absurd (high_some m d k named c.args.avoiding.now.group c.args.cells.now c.requires _ _ c.value_of.ensures c.if-value_of.true (c.descend.ensures _ (named_high m d k named)) c.in_err-rest-in-Node.was)

pub overflow_add-result : goal.overflow_add-result
overflow_add-result t c =
    let m = c.args.self.now in
    let d = c.args.diagram in
    let k = c.in_ok-node-in-Node.node in
    let named = c.in_ok-node-in-Node.ensures.named in
    let w = named_weight m d k named _ _ c.bit.ensures c.from.ensures _ c.in_ok-weight-in-Node.was in
    omega (arith, sum_few m d k named c.args.avoiding.now.group _ c.in_ok-rest-in-Node.rest _ w (c.descend.ensures _ (named_high m d k named)) c.in_ok-rest-in-Node.was)

pub returns-then-value_of : goal.returns-then-value_of
returns-then-value_of t c s den =
    let m = c.args.self.now in
    let d = c.args.diagram in
    let k = c.in_ok-node-in-Node.node in
    let named = c.in_ok-node-in-Node.ensures.named in
    let w = named_weight m d k named _ _ c.bit.ensures c.from.ensures _ c.in_ok-weight-in-Node.was in
    first_high m d k named c.args.avoiding.now.group s den _ c.in_ok-rest-in-Node.rest _ _ w c.avoids.ensures.bits c.if-avoids.true (c.descend.ensures _ (named_high m d k named)) c.in_ok-rest-in-Node.was

pub descend-requires-in-Node : goal.descend-requires-in-Node
descend-requires-in-Node t c =
    let k = c.in_ok-node-in-Node.node in
    let falls : k.low.code < t = omega (arith, c.decreases, (named_falls c.args.self.now c.args.diagram k c.in_ok-node-in-Node.ensures.named).0) in
    (falls, c.requires)

pub returns-else-avoids : goal.returns-else-avoids
returns-else-avoids t c s den =
    let m = c.args.self.now in
    let d = c.args.diagram in
    let k = c.in_ok-node-in-Node.node in
    let g = c.args.avoiding.now.group in
    let named = c.in_ok-node-in-Node.ensures.named in
    let w = named_weight m d k named _ _ c.bit.ensures c.from.ensures _ c.in_ok-weight-in-Node.was in
    let low = c.descend-in-Node.ensures _ (named_low m d k named) in
    elim c.else-avoids.branch [
      | else-avoids-via-then-avoids+else-value_of way ↦ first_low m d k named g s den c.args.cells.now c.requires _ _ way.value_of.ensures way.if-value_of.false low
      | else-avoids-via-else-avoids way ↦ first_barred m d k named g s den _ _ _ w c.avoids.ensures.bits way.if-avoids.false low
    ]
