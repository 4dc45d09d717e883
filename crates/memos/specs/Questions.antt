-- Questions as keys: their hash, and when two are the same. Assumes nothing.
use Rattle.std.specs.Prelude.{ℕ, Bool, ◌&&◌, ◌==◌}
use Rattle.interning.specs.Hash.{mixed, finished}
use Rattle.memos.specs.declared.question.Question.{Question}
use Rattle.memos.specs.declared.question.Question.TheVariants.{Either, Both, Less, Turn, Off, On}

-- a question's kind and operands as numbers
pub record Words : Type 0 where
  pub kind : ℕ
  pub left : ℕ
  pub right : ℕ

abbrev pub words : Question → Words
words (Either f g) = record { kind = 0; left = f.code; right = g.code }
words (Both f g) = record { kind = 1; left = f.code; right = g.code }
words (Less f g) = record { kind = 2; left = f.code; right = g.code }
words (Turn f) = record { kind = 3; left = f.code; right = 0 }
words (Off f v) = record { kind = 4; left = f.code; right = v }
words (On f v) = record { kind = 5; left = f.code; right = v }

-- the hash of a question
abbrev pub question_mark : Question → ℕ
question_mark q = finished (mixed (mixed (words q).kind (words q).left) (words q).right)

-- whether two questions agree in kind and operands
abbrev pub same_question : Question → Question → Bool
same_question p q = (words p).kind == (words q).kind && ((words p).left == (words q).left && (words p).right == (words q).right)
