use Rattle.std.specs.Slice.Iter.{chunks_exact_rest, chunks_exact_size}
use Rattle.std.proofs.Common.{◌≡◌}
use Rattle.rules.specs.Memory.{view}
use Rattle.rules.proofs.LaidOut.{RowsMade}
use Rattle.rules.proofs.terms.TermMemory.least_of_rows.Given as goal

abbrev pub invariant-loop-row : goal.invariant-loop-row
invariant-loop-row l =
    (goal.iterator-loop-row).can_next l.row-iterator × (goal.iterator-loop-row).is_finite l.row-iterator × (chunks_exact_size l.row-iterator ≡ l.w)
    × RowsMade (view l.initial.self) (view l.self) l.items.items l.places.items (chunks_exact_rest l.row-iterator) l.w l.inner l.outer
