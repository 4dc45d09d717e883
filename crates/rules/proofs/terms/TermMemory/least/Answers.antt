use Rattle.std.specs.Iterator.Adapters.{enumerate_count, enumerate_source, rev_source}
use Rattle.std.specs.Slice.Iter.{iter_rest}
use Rattle.std.proofs.Common.{◌≡◌, length, refl, ap, ◌∙◌, rules, arith}
use Rattle.rules.proofs.Rows.{row_none, row_more, row_done}
use Rattle.rules.proofs.terms.TermMemory.least.Goals as goal

pub loop-i-init : goal.loop-i-init
loop-i-init c =
    let all : iter_rest (enumerate_source (rev_source c.into_iter-i-iterator.result)) ≡ c.args.items.now = search rules in
    let count : enumerate_count (rev_source c.into_iter-i-iterator.result) ≡ 0 = search rules in
    ((tt, tt, omega (arith, ap length all, ap length c.iter.ensures.rest)), tt, refl, count, row_none c.args.items.now _ _ c.args.k all)

pub loop-i-preserved : goal.loop-i-preserved
loop-i-preserved c =
    let count = c.in-Some.ensures.steps.0 ∙ c.loop-i.invariant.3 in
    let step = c.in-Some.ensures.steps.1 in
    let index = step.1 in (
      omega arith,
      tt,
      c.cells.auto.row ∙ c.loop-i.invariant.2,
      count,
      row_more c.args.items.now _ _ c.loop-i.row c.cells.new.row c.in-Some.item.now c.args.k c.max-fewest.result c.min.result step.0 (omega arith) (omega arith) (omega arith) (omega arith) (λ e es us long ready. c.cells.ensures e es us (omega arith) ready) c.loop-i.invariant.4,
    )

pub returns : goal.returns
returns c es s = row_done c.args.items.now _ c.loop-i.row c.args.k c.in-None.ensures.steps.1.0 (omega arith) (omega arith) c.loop-i.invariant.4 es s
