use Rattle.std.proofs.Common.{◌≡◌, ◌≤◌, ◌∷◌}
use Rattle.diagrams.specs.Memory.{trees}
use Rattle.diagrams.specs.Stacks.{stacked}
use Rattle.diagrams.specs.Walking.{AllFit, steps, to_come}
use Rattle.diagrams.proofs.Pages.{Paged}
use Rattle.diagrams.proofs.Walks.{Descends}
use Rattle.diagrams.proofs.nodes.NodeMemory.list.Given as goal

abbrev pub invariant-page : goal.invariant-page
invariant-page l =
    (l.count ≤ l.room) × Paged l.limit (to_come (trees l.self) (stacked l.initial.later)) l.initial.buffer l.count (to_come (trees l.self) (stacked l.later)) l.buffer × AllFit (trees l.self) (stacked l.later)

abbrev pub decreases-page : goal.decreases-page
decreases-page l = steps (trees l.self) (stacked l.later)

abbrev pub invariant-descent : goal.invariant-descent
invariant-descent l =
    (l.count ≡ l.initial.count) × (l.buffer ≡ l.initial.buffer) × Descends (trees l.self) l.initial.branch (stacked l.initial.later) l.branch (stacked l.later)

abbrev pub decreases-descent : goal.decreases-descent
decreases-descent l = steps (trees l.self) (l.branch ∷ stacked l.later)
