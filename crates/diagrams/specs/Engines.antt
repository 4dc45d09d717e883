-- What an engine answers: a memory of nodes with a memo whose notes are right in it.
use Rattle.std.specs.Prelude.{◌≡◌, ℕ, List, [], Ok, Err, Result}
use Rattle.families.specs.Questions.{Ask}
use Rattle.families.specs.Trees.{Tree}
use Rattle.memos.specs.declared.question.Question.{Question}
use Rattle.memos.specs.Notes.{Note}
use Rattle.diagrams.specs.declared.engine.Stranger.{Stranger}
use Rattle.diagrams.specs.declared.nodes.TooFewCells.{TooFewCells}
use Rattle.diagrams.specs.declared.solve.Solved.{Solved}
use Rattle.diagrams.specs.Asking.{OperandsHeld, ask_at}
use Rattle.diagrams.specs.Solving.{Grows, TalliedOut, WorkedOut}

-- The question q was worked out, from the trees ts, with cap places, and the notes ns: answered exactly where the places do, with
-- nothing added but what it builds; and counted, where the memo has kept every note.
pub record Replied (keeps : Type 0) (cap : ℕ) (ts : List Tree) (ns : List Note) (ts' : List Tree) (ns' : List Note) (q : Ask) (s : Solved) : Type 0 where
  pub answer : WorkedOut cap ts ts' q s.answer
  pub opened : keeps → TalliedOut ts ns ts' ns' q s.answer s.opened
  pub grows : Grows ts ts' q

-- The question is worked out where its operands are held; else it is refused, and nothing changes.
abbrev pub Replies : Type 0 → ℕ → List Tree → List Note → List Tree → List Note → Question → Result Solved Stranger → Type 0
Replies keeps cap ts ns ts' ns' question (Ok s) = OperandsHeld ts question × Replied keeps cap ts ns ts' ns' (ask_at ts question) s
Replies keeps cap ts ns ts' ns' question (Err e) = (OperandsHeld ts question → ⊥) × (ts' ≡ ts) × (ns' ≡ ns)

-- no note is left where nodes were thrown out, and else they stay
abbrev pub Forgets : List Note → List Note → Result (Unit {0}) TooFewCells → Type 0
Forgets ns ns' (Ok u) = ns' ≡ []
Forgets ns ns' (Err e) = ns' ≡ ns
