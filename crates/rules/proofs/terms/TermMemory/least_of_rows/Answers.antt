use Rattle.std.proofs.Common.{sym, ◌∙◌, subst, rules, arith}
use Rattle.std.specs.Slice.Iter.{chunks_exact_rest}
use Rattle.rules.specs.Building.{AllAt}
use Rattle.rules.specs.Memory.{view}
use Rattle.rules.proofs.LaidOut.{RowsMade, rows_more, rows_done}
use Rattle.rules.proofs.terms.TermMemory.least_of_rows.Goals as goal

pub loop-row-preserved : goal.loop-row-preserved
loop-row-preserved c =
    let steps = c.in-Some.ensures.steps in
    let more = rows_more _ _ steps.1.0 (steps.1.1 ∙ c.loop-row.invariant.2) c.requires.laid_out.0 c.loop-row.invariant.3 c.least.result c.requires.counts.2 c.requires.counts.3 c.least.ensures in (
      search rules,
      tt,
      steps.0 ∙ c.loop-row.invariant.2,
      subst (λ ps. RowsMade (view c.args.self.now) (view c.least.new.self) c.args.items.now.items ps (chunks_exact_rest c.next.new.self) c.args.w c.args.inner c.args.outer) (sym c.push.ensures.items) more,
    )

pub returns : goal.returns
returns c es s =
    rows_done c.requires.laid_out.1 (omega (arith, c.in-None.ensures.steps.1)) c.loop-row.invariant.3 es s
    (λ ts t. c.least-2.ensures ts (subst (λ ps. AllAt (view c.loop-row.self) ps ts) (sym c.deref-2.ensures.0) t))
