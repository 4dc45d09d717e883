use Rattle.std.proofs.Common.{◌≡◌, ◌-◌, length, is_some, sym, ap, ◌∙◌, subst, arith}
use Rattle.std.proofs.lemmas.List.{length-map}
use Rattle.interning.specs.Model.{held}
use Rattle.interning.specs.Places.{Stands}
use Rattle.interning.proofs.Decode.{length_decode}
use Rattle.memos.specs.Diagrams.{seen}
use Rattle.diagrams.specs.Collecting.{ClosedFrom, Marked, Sparing, marked_by, marks}
use Rattle.diagrams.specs.Memory.{trees}
use Rattle.diagrams.specs.NodeKeys.{node_tree}
use Rattle.diagrams.proofs.Marks.{both_marked, both_grow, closed_parts, copy_at, mark_at, past_unmarked, sparing_parts}
use Rattle.diagrams.proofs.nodes.NodeMemory.spread.Goals as goal

pub loop-place-init : goal.loop-place-init
loop-place-init c = record {
  sparing = λ rs s. s;
  more = λ p h. h;
  closed = λ p d a l h. absurd (omega (arith, length_decode node_tree (held c.args.self.now.interner)));
  copied = c.requires.copied;
}

pub loop-place-preserved-in-Some : goal.loop-place-preserved-in-Some
loop-place-preserved-in-Some c =
    let m = c.args.self.now in
    let p = c.loop-place.place - 1 in
    let cs = c.loop-place.cells in
    let bs = marks cs in
    let k = c.in-Some.node in
    let stands : Stands (held m.interner) k p = c.loop-place.invariant.copied p k (omega (arith, length_decode node_tree (held m.interner))) (copy_at cs p ∙ c.in-Some.is) in
    let is : marks c.mark_place-in-Some.new.cells ≡ both_marked m p k stands bs = c.mark_place-in-Some.ensures.marked ∙ ap (λ x. marked_by (length (trees m)) x (seen k.high)) c.mark_place.ensures.marked in
    record {
      sparing = λ rs s. subst (Sparing (trees m) rs) (sym is) (sparing_parts m p k stands bs rs (mark_at cs p ∙ ap is_some c.in-Some.is) (c.loop-place.invariant.sparing rs s));
      more = λ q h. subst (λ x. Marked x q) (sym is) (both_grow m p k stands bs q (c.loop-place.invariant.more q h));
      closed = subst (ClosedFrom (held m.interner) p) (sym is) (closed_parts m p k stands bs c.loop-place.place (omega arith) (simp length-map (omega arith)) c.loop-place.invariant.closed);
      copied = c.mark_place-in-Some.ensures.copied (c.mark_place.ensures.copied c.loop-place.invariant.copied);
    }

pub loop-place-preserved : goal.loop-place-preserved
loop-place-preserved c =
    let not = mark_at c.loop-place.cells _ ∙ ap is_some c.in_default.is in
    record {
      sparing = c.loop-place.invariant.sparing;
      more = c.loop-place.invariant.more;
      closed = λ q d low l h. c.loop-place.invariant.closed q d (omega (arith, past_unmarked _ _ q not low h)) l h;
      copied = c.loop-place.invariant.copied;
    }
