use Rattle.std.specs.Iterator.Adapters.{enumerate_count, enumerate_source, rev_source}
use Rattle.std.specs.Slice.Iter.{iter_rest}
use Rattle.std.proofs.Common.{◌≡◌, length}
use Rattle.rules.specs.Memory.{view}
use Rattle.rules.proofs.Rows.{RowMade}
use Rattle.rules.proofs.terms.TermMemory.least.Given as goal

abbrev pub invariant-loop-i : goal.invariant-loop-i
invariant-loop-i l =
    (goal.iterator-loop-i).can_next l.i-iterator × (goal.iterator-loop-i).is_finite l.i-iterator
    × (length l.row ≡ 65) × (enumerate_count (rev_source l.i-iterator) ≡ 0)
    × RowMade (view l.initial.self) (view l.self) l.items (iter_rest (enumerate_source (rev_source l.i-iterator))) l.row l.k
