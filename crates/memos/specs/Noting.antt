-- Lists of notes that hold one answer to a question: how a question is looked up, and how its answer is noted. Assumes nothing.
use Rattle.std.specs.Prelude.{Bool, false, cond, ◌||◌, List, [], ◌∷◌, ◌++◌}
use Rattle.memos.specs.declared.diagram.Diagram.{Diagram}
use Rattle.memos.specs.declared.question.Question.{Question}
use Rattle.memos.specs.Notes.{Note}
use Rattle.memos.specs.Questions.{same_question}

-- whether a note is for the question q
unfoldable pub asked : Question → List Note → Bool
asked q [] = false
asked q (n ∷ ns) = same_question n.0 q || asked q ns

-- the notes, with the answer a in each that is for q
unfoldable pub answered : Question → Diagram → List Note → List Note
answered q a [] = []
answered q a (n ∷ ns) = cond (same_question n.0 q) (q, a) n ∷ answered q a ns

-- the notes with the answer a to q: in the place of its old answer, or at the end where it had none
abbrev pub noted : Question → Diagram → List Note → List Note
noted q a ns = cond (asked q ns) (answered q a ns) (ns ++ ((q, a) ∷ []))
