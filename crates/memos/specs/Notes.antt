-- Notes, and what a memo promises of them. Assumes nothing.
use Rattle.std.specs.Prelude.{◌≡◌, ◌⊎◌, List, Some, None, Option, ◌≢◌}
use Rattle.interning.specs.Distinct.{◌∈◌}
use Rattle.memos.specs.declared.diagram.Diagram.{Diagram}
use Rattle.memos.specs.declared.question.Question.{Question}

-- a question with its answer
abbrev pub Note : Type 0
Note = Question × Diagram

-- no note is for the question q
abbrev pub Unasked : List Note → Question → Type 0
Unasked ns q = (a : Diagram) → (q, a) ∈ ns → ⊥

-- an answer to q is one that is noted; a memo that keeps every note has an answer wherever there is one
abbrev pub Told : Type 0 → List Note → Question → Option Diagram → Type 0
Told keeps ns q (Some a) = (q, a) ∈ ns
Told keeps ns q None = keeps → Unasked ns q

-- A memo with the notes ns is asked for q and answers r. Its notes and its claim stay.
pub record Recalled (keeps keeps' : Type 0) (ns ns' : List Note) (q : Question) (r : Option Diagram) : Type 0 where
  pub told : Told keeps ns q r
  pub notes : ns' ≡ ns
  pub still : keeps → keeps'
  pub already : keeps' → keeps

-- A memo with the notes ns is told the answer a to q. It holds no note but a new or an old one; where it claims to have
-- kept every note, it claimed it before, the new note is there, and each old one for another question.
pub record Noted (keeps keeps' : Type 0) (ns ns' : List Note) (q : Question) (a : Diagram) : Type 0 where
  pub only : (n : Note) → n ∈ ns' → (n ≡ (q, a)) ⊎ (n ∈ ns)
  pub already : keeps' → keeps
  pub new : keeps' → (q, a) ∈ ns'
  pub others : keeps' → (p : Question) (b : Diagram) → (p ≢ q) → (p, b) ∈ ns → (p, b) ∈ ns'
