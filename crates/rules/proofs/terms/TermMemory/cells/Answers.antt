use Rattle.std.proofs.Common.{◌-◌, ◌∷◌, arith}
use Rattle.rules.specs.Memory.{view}
use Rattle.rules.proofs.Cells.{beside_from_row, filled_more, row_kept, row_less}
use Rattle.rules.proofs.terms.TermMemory.cells.Goals as goal

pub loop-j-preserved : goal.loop-j-preserved
loop-j-preserved c e es us long ready =
    let row = c.loop-j.row in
    let x = c.loop-j.j - 1 in
    let inv = c.loop-j.invariant e es us long ready in
    let made = c.cell.ensures e es long (beside_from_row row c.args.item c.args.fewest x e es (omega arith) (omega arith) (omega arith) (inv.0.adds.kept _ _ ready.first) inv.1) in (
      filled_more row _ x c.args.most c.cell.result (e ∷ es) (omega arith) (omega arith) (ready.wanted x (omega arith) (omega arith)) made inv.0,
      row_less (view c.cell.new.self) row (c.args.fewest - 1) x c.cell.result es (row_kept row (c.args.fewest - 1) x es made.adds inv.1),
    )

pub returns : goal.returns
returns c e es us long ready =
    let inv = c.loop-j.invariant e es us long ready in
    record { adds = inv.0.adds; row = λ j low from to within. inv.0.row j low (omega arith) to within }
