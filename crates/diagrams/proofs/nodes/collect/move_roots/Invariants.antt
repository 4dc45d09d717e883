use Rattle.std.proofs.Common.{◌≡◌, ◌++◌, map, take, drop}
use Rattle.memos.specs.Diagrams.{seen}
use Rattle.diagrams.specs.Collecting.{moved_as, moves}
use Rattle.diagrams.proofs.nodes.collect.move_roots.Given as goal

abbrev pub invariant-loop-root : goal.invariant-loop-root
invariant-loop-root l = l.roots ≡ map (λ d. moved_as (moves l.cells) d (seen d)) (take l.root-index l.initial.roots) ++ drop l.root-index l.initial.roots
