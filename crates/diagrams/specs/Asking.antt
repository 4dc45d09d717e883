-- Questions over diagrams, and the questions over trees that they ask.
use Rattle.std.specs.Prelude.{◌≡◌, List, length, Some, None, Option}
use Rattle.memos.specs.declared.diagram.Diagram.{Diagram}
use Rattle.memos.specs.declared.question.Question.{Question}
use Rattle.memos.specs.declared.question.Question.TheVariants.{Either, Both, Less, Turn, Off, On}
use Rattle.memos.specs.Diagrams.{seen}
use Rattle.families.specs.Questions as asked
use Rattle.families.specs.Trees.{Tree}
use Rattle.diagrams.specs.Building.{Denotes}
use Rattle.diagrams.specs.NodeKeys.{Below, tree_at}

-- every operand is held
abbrev pub OperandsHeld : List Tree → Question → Type 0
OperandsHeld ts (Either f g) = Below (length ts) (seen f) × Below (length ts) (seen g)
OperandsHeld ts (Both f g) = Below (length ts) (seen f) × Below (length ts) (seen g)
OperandsHeld ts (Less f g) = Below (length ts) (seen f) × Below (length ts) (seen g)
OperandsHeld ts (Turn f) = Below (length ts) (seen f)
OperandsHeld ts (Off f u) = Below (length ts) (seen f)
OperandsHeld ts (On f u) = Below (length ts) (seen f)

-- the question over the trees of its operands
abbrev pub ask_at : List Tree → Question → asked.Ask
ask_at ts (Either f g) = asked.either (tree_at ts f) (tree_at ts g)
ask_at ts (Both f g) = asked.both (tree_at ts f) (tree_at ts g)
ask_at ts (Less f g) = asked.less (tree_at ts f) (tree_at ts g)
ask_at ts (Turn f) = asked.turn (tree_at ts f)
ask_at ts (Off f u) = asked.off (tree_at ts f) u
ask_at ts (On f u) = asked.on (tree_at ts f) u

-- the question over diagrams asks q of their trees
pub record Asks (ts : List Tree) (question : Question) (q : asked.Ask) : Type 0 where
  pub held : OperandsHeld ts question
  pub is : ask_at ts question ≡ q

-- what is seen of a question, as a diagram
abbrev pub Seen : List Tree → Option Diagram → asked.Sight → Type 0
Seen ts (Some d) (asked.Sight.seen t) = Denotes ts d t
Seen ts (Some d) asked.Sight.opens = ⊥
Seen ts None (asked.Sight.seen t) = ⊥
Seen ts None asked.Sight.opens = Unit {0}
