-- The places of the short memo, and the notes in them. Assumes nothing.
use Rattle.std.specs.Prelude.{ℕ, ◌%◌, cond, List, [], ◌∷◌, Some, None, Option}
use Rattle.memos.specs.declared.diagram.Diagram.{Diagram}
use Rattle.memos.specs.declared.question.Question.{Question}
use Rattle.memos.specs.Notes.{Note}
use Rattle.memos.specs.Questions.{question_mark, same_question}

-- the notes in the places, in their order
abbrev pub entries_notes : List (Option Note) → List Note
entries_notes [] = []
entries_notes (None ∷ es) = entries_notes es
entries_notes (Some n ∷ es) = n ∷ entries_notes es

-- the place of a question
abbrev pub place_of : Question → ℕ
place_of q = question_mark q % 1024

-- the answer to q at a place, or none where the place is empty or holds another question's
abbrev pub read : Option Note → Question → Option Diagram
read None q = None
read (Some n) q = cond (same_question n.0 q) (Some n.1) None
