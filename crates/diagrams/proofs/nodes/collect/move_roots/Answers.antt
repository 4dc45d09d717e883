use Rattle.std.proofs.Common.{get_or, set, ap, ◌∙◌, arith}
use Rattle.std.proofs.lemmas.List.{get_or_default}
use Rattle.std.proofs.lemmas.List.Edits.{map_over_more}
use Rattle.memos.specs.declared.diagram.Diagram.{Diagram}
use Rattle.memos.specs.Diagrams.{seen}
use Rattle.diagrams.specs.Collecting.{moved_as, moves}
use Rattle.diagrams.proofs.nodes.collect.move_roots.Goals as goal

pub loop-root-preserved : goal.loop-root-preserved
loop-root-preserved c =
    let rs = c.loop-root.roots in
    let i = c.loop-root.root-index in
    let root : Diagram = get_or rs i (record { code = 0 }) in
    ap (set rs i) c.moved.ensures
    ∙ map_over_more (λ d. moved_as (moves c.args.cells.now) d (seen d)) c.args.roots.now rs i root (omega arith) c.loop-root.invariant (get_or_default rs i _ root (omega arith))
