use Rattle.std.proofs.Common.{is_some, sym, ap, ◌∙◌, arith}
use Rattle.std.proofs.lemmas.Bool.{false≢true}
use Rattle.std.proofs.lemmas.Option.{none-some}
use Rattle.std.proofs.lemmas.List.{length-map}
use Rattle.diagrams.specs.Collecting.{marks}
use Rattle.diagrams.specs.Memory.{trees}
use Rattle.diagrams.proofs.Marks.{copy_at, mark_at, roots_more}
use Rattle.diagrams.proofs.Memories.{memory_each}
use Rattle.diagrams.proofs.nodes.NodeMemory.mark_roots.Goals as goal

pub loop-root-init : goal.loop-root-init
loop-root-init c =
    let cs = c.args.cells.now in record {
      marked = (
        (λ p l h. absurd (false≢true (sym (mark_at cs p ∙ ap is_some (sym (copy_at cs p) ∙ c.requires.blank p)) ∙ h))),
        (λ i d l. absurd (omega arith)),
      );
      copied = λ p k l e. absurd (none-some k (sym (c.requires.blank p) ∙ e));
    }

pub loop-root-preserved : goal.loop-root-preserved
loop-root-preserved c =
    let m = c.args.self.now in
    record {
      marked = roots_more (trees m) c.args.roots.now c.loop-root.root-index (marks c.loop-root.cells) (marks c.mark_place.new.cells) _ c.mark_place.ensures.marked c.loop-root-test.true (simp length-map (omega arith)) (memory_each m) c.loop-root.invariant.marked;
      copied = c.mark_place.ensures.copied c.loop-root.invariant.copied;
    }
