use Rattle.std.proofs.Common.{◌+◌, ◌<◌, Some, None, sym, ap, ◌∙◌, arith}
use Rattle.families.specs.Trees.{groups}
use Rattle.diagrams.specs.Listing.{first_below}
use Rattle.diagrams.specs.Memory.{trees}
use Rattle.diagrams.specs.NodeKeys.{tree_at}
use Rattle.diagrams.proofs.Firsts.{first_zero, first_less, first_high, first_parts, low_falls, high_falls, low_denotes, high_denotes}
use Rattle.diagrams.proofs.nodes.NodeMemory.+first_below.Goals as goal

pub returns-then-limit-eq0 : goal.returns-then-limit-eq0
returns-then-limit-eq0 t c s den = first_zero (groups s) ∙ ap (λ n. first_below n (groups s)) (sym c.if-limit-eq0.true)

pub first_below-requires : goal.first_below-requires
first_below-requires t c =
    let k = c.in_ok-node-in-Node.node in
    let falls : k.high.code < t = omega (arith, c.decreases, high_falls c.args.self.now c.args.diagram c.in-Node.place k c.in-Node.ensures c.in_ok-node-in-Node.ensures.0) in
    (falls, tt)

pub overflow_add-result : goal.overflow_add-result
overflow_add-result t c =
    let m = c.args.self.now in
    let k = c.in_ok-node-in-Node.node in
    let below = first_less c.saturating_sub.result c.in-Some.group (groups (tree_at (trees m) k.high)) (c.in-Some.ensures _ (high_denotes m c.args.diagram c.in-Node.place k c.in-Node.ensures c.in_ok-node-in-Node.ensures.0)) in
    omega (arith, c.saturating_sub.ensures)

pub returns-in-Some : goal.returns-in-Some
returns-in-Some t c s den =
    let m = c.args.self.now in
    let d = c.args.diagram in
    let p = c.in-Node.place in
    let is = c.in-Node.ensures in
    let k = c.in_ok-node-in-Node.node in
    let found = c.in_ok-node-in-Node.ensures in
    ap (λ x. Some (x + c.in-Some.group)) found.1
    ∙ first_parts m d p k is found.0 c.args.limit (Some c.in-Some.group) s den (first_high m d p k is found.0 c.args.limit c.in_ok-node-in-Node.weight c.saturating_sub.result (Some c.in-Some.group) found.1 c.saturating_sub.ensures (c.in-Some.ensures _ (high_denotes m d p k is found.0)))

pub first_below-requires-in-None-first_below : goal.first_below-requires-in-None-first_below
first_below-requires-in-None-first_below t c =
    let k = c.in_ok-node-in-Node.node in
    let falls : k.low.code < t = omega (arith, c.decreases, low_falls c.args.self.now c.args.diagram c.in-Node.place k c.in-Node.ensures c.in_ok-node-in-Node.ensures.0) in
    (falls, tt)

pub returns-in-None-first_below : goal.returns-in-None-first_below
returns-in-None-first_below t c s den =
    let m = c.args.self.now in
    let d = c.args.diagram in
    let p = c.in-Node.place in
    let is = c.in-Node.ensures in
    let k = c.in_ok-node-in-Node.node in
    let found = c.in_ok-node-in-Node.ensures in
    c.first_below-in-None-first_below.ensures _ (low_denotes m d p k is found.0)
    ∙ first_parts m d p k is found.0 c.args.limit None s den (first_high m d p k is found.0 c.args.limit c.in_ok-node-in-Node.weight c.saturating_sub.result None found.1 c.saturating_sub.ensures (c.in-None-first_below.ensures _ (high_denotes m d p k is found.0)))
