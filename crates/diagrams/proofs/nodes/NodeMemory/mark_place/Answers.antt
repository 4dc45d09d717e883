use Rattle.std.proofs.Common.{true, cond, length, set, sym, ap, ◌∙◌, subst, arith}
use Rattle.std.proofs.lemmas.Bool.{lt-ltb}
use Rattle.std.proofs.lemmas.List.{length-map, map-set}
use Rattle.interning.specs.Model.{held}
use Rattle.diagrams.specs.Collecting.{Copied, copies, marked_by, marks}
use Rattle.diagrams.specs.Memory.{trees}
use Rattle.diagrams.proofs.Marks.{copied_place}
use Rattle.diagrams.proofs.nodes.NodeMemory.mark_place.Goals as goal

pub returns-then-place-len-clause-marked : goal.returns-then-place-len-clause-marked
returns-then-place-len-clause-marked c =
    let n = length (trees c.args.self.now) in
    let bs = marks c.args.cells.now in
    let p = c.in-Node.place in
    map-set _ c.args.cells.now p _ ∙ ap (λ b. cond b (set bs p true) bs) (sym (lt-ltb p n (omega arith))) ∙ ap (marked_by n bs) c.in-Node.ensures

pub returns-then-place-len-clause-copied : goal.returns-then-place-len-clause-copied
returns-then-place-len-clause-copied c copied =
    let ks = held c.args.self.now.interner in
    let cs = c.args.cells.now in
    let p = c.in-Node.place in
    subst (Copied ks) (sym (map-set _ cs p _)) (copied_place ks (copies cs) p c.key.result (simp length-map (omega arith)) c.key.ensures copied)
