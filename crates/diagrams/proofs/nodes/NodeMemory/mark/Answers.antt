use Rattle.std.proofs.Common.{None, length, get_or, replicate, ap, ◌∙◌, rules}
use Rattle.diagrams.specs.Collecting.{blank, copies}
use Rattle.diagrams.proofs.Marks.{blank_at, copy_at}
use Rattle.diagrams.proofs.nodes.NodeMemory.mark.Goals as goal

pub mark_roots-requires-clause-blank : goal.mark_roots-requires-clause-blank
mark_roots-requires-clause-blank c p =
    let n = length c.args.cells.now in
    ap (λ cs. get_or (copies cs) p None) (c.fill.ensures.after (λ y e. search rules) ∙ ap (replicate n) c.blank.ensures) ∙ copy_at (replicate n blank) p ∙ blank_at n p
