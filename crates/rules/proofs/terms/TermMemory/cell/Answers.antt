use Rattle.std.proofs.Common.{arith}
use Rattle.rules.specs.Memory.{view}
use Rattle.rules.specs.Terms.{both, either}
use Rattle.rules.proofs.Cells.{cell_whole, cell_one, cell_inner}
use Rattle.rules.proofs.Puts.{both_key, either_key}
use Rattle.rules.proofs.terms.TermMemory.cell.Goals as goal

pub returns-then-j-left : goal.returns-then-j-left
returns-then-j-left c e es long b = cell_whole c.args.j e es (omega arith) (omega arith) (c.put.ensures (both e _) (both_key (view c.args.self.now) _ _ e _ b.first (b.below (omega arith))))

pub returns-then-j-eq1 : goal.returns-then-j-eq1
returns-then-j-eq1 c e es long b = cell_one c.args.j e es (omega arith) (omega arith) (c.put-then-j-eq1.ensures (either e _) (either_key (view c.args.self.now) _ _ e _ b.first (b.beside (omega arith))))

pub returns-else-j-eq1 : goal.returns-else-j-eq1
returns-else-j-eq1 c e es long b =
    let with = c.put-with.ensures (both e _) (both_key (view c.args.self.now) _ _ e _ b.first (b.below (omega arith))) in
    cell_inner c.args.j e es (omega arith) (omega arith) with (c.put-else-j-eq1.ensures (either _ _) (either_key (view c.put-with.new.self) _ _ _ _ with.at (with.adds.kept _ _ (b.beside (omega arith)))))
