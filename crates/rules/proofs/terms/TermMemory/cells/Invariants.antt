use Rattle.std.proofs.Common.{◌≡◌, suc, ◌-◌, List, ◌∷◌, length}
use Rattle.rules.specs.Expanding.{Row, Ready, Filled}
use Rattle.rules.specs.Memory.{view}
use Rattle.rules.specs.Terms.{Term}
use Rattle.rules.proofs.terms.TermMemory.cells.Given as goal

abbrev pub invariant-loop-j : goal.invariant-loop-j
invariant-loop-j l =
    (e : Term) (es us : List Term) → l.left ≡ suc (length es) → Ready (view l.initial.self) l.initial.row l.item l.fewest l.most e es us →
    Filled (view l.initial.self) (view l.self) l.row l.j l.most (e ∷ es) us × Row (view l.self) l.row (l.fewest - 1) (l.j - 1) es
