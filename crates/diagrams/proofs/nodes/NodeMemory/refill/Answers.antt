use Rattle.std.proofs.Common.{◌≡◌, ◌+◌, None, is_some, length, get_or, sym, refl, ap, ◌∙◌, subst, arith}
use Rattle.std.proofs.Math.Seq.{map-set_same}
use Rattle.std.proofs.lemmas.List.{length-map, map-set}
use Rattle.interning.proofs.Members.{apart_once}
use Rattle.diagrams.specs.Collecting.{Moved, blank, marks, moves}
use Rattle.diagrams.specs.Memory.{trees, places}
use Rattle.diagrams.proofs.Marks.{copy_at, mark_at}
use Rattle.diagrams.proofs.Memories.{memory_apart}
use Rattle.diagrams.proofs.Moves.{fitting, moved_next, moved_unmarked, never_refused}
use Rattle.diagrams.proofs.nodes.NodeMemory.refill.Goals as goal

pub build-requires : goal.build-requires
build-requires c =
    let inv = c.loop-place.invariant in
    record { fitting = fitting c.args.self.now c.args.cells.now c.loop-place.cells c.requires.closed c.requires.copied inv.stay c.loop-place.place (omega arith) c.in-Some.node c.in-Some.is (trees c.loop-place.self) inv.moved _ _ c.moved-low.ensures c.moved-high.ensures }

pub unwrap-diagram-requires : goal.unwrap-diagram-requires
unwrap-diagram-requires c =
    let inv = c.loop-place.invariant in
    never_refused c.args.self.now c.args.cells.now c.loop-place.cells c.requires.closed c.requires.copied inv.stay c.loop-place.place (omega arith) c.in-Some.node c.in-Some.is (trees c.loop-place.self) inv.moved _ _ c.moved-low.ensures c.moved-high.ensures (places c.loop-place.self) c.build.result (trees c.build.new.self) c.build.ensures.joins (apart_once _ (memory_apart c.loop-place.self)) inv.same.room

pub loop-place-preserved-in_default : goal.loop-place-preserved-in_default
loop-place-preserved-in_default c =
    let inv = c.loop-place.invariant in
    let not = mark_at c.args.cells.now _ ∙ ap is_some (sym (copy_at c.args.cells.now _) ∙ ap (λ os. get_or os c.loop-place.place None) (sym inv.stay) ∙ copy_at c.loop-place.cells _ ∙ c.in_default.is) in
    record { same = inv.same; stay = inv.stay; moved = moved_unmarked _ _ _ _ _ not inv.moved }

pub loop-place-preserved : goal.loop-place-preserved
loop-place-preserved c =
    let inv = c.loop-place.invariant in
    let next = moved_next c.args.self.now c.args.cells.now c.loop-place.cells c.requires.closed c.requires.copied inv.stay c.loop-place.place (omega arith) c.in-Some.node c.in-Some.is (trees c.loop-place.self) inv.moved _ _ c.moved-low.ensures c.moved-high.ensures (places c.loop-place.self) c.build.result (trees c.build.new.self) c.build.ensures.joins c.unwrap-diagram.result c.unwrap-diagram.ensures (simp length-map (omega arith)) in
    record {
      same = record { room = c.build.ensures.same.room ∙ inv.same.room; named = c.build.ensures.same.named ∙ inv.same.named };
      stay = map-set_same _ c.loop-place.cells _ _ blank refl ∙ inv.stay;
      moved = subst (Moved (trees c.args.self.now) (marks c.args.cells.now) (c.loop-place.place + 1) (trees c.build.new.self)) (sym (map-set _ c.loop-place.cells _ _)) next;
    }

pub returns-clause-moved : goal.returns-clause-moved
returns-clause-moved c =
    let end : c.loop-place.place ≡ length (trees c.args.self.now) = omega arith in
    subst (λ n. Moved (trees c.args.self.now) (marks c.args.cells.now) n (trees c.loop-place.self) (moves c.loop-place.cells)) end c.loop-place.invariant.moved
