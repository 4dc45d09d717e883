-- What is answered, for good operands.
use Rattle.std.specs.Prelude.{◌≡◌, ℕ, ◌≤◌, Bool, true, ◌||◌, ◌↔◌}
use Rattle.families.specs.Trees.{Tree, lists}
use Rattle.families.specs.Good.{Good, occurs, Upto}
use Rattle.families.specs.Kinds.{Smallest, Stopping}
use Rattle.families.specs.Questions.{Ask, either, both, less, turn, off, on}
use Rattle.families.specs.Outcomes.{solve, outcome, answer}
use Rattle.families.specs.Meanings.{Answers, GoodAsk}

-- each question is answered as it means
abbrev pub Answered : Type 0
Answered = (b : ℕ) → 1 ≤ b → b ≤ 49 → (q : Ask) → GoodAsk b q → Answers b q (answer q)

-- nothing else is an answer
abbrev pub AnsweredOnce : Type 0
AnsweredOnce = (q : Ask) → GoodAsk 1 q → (r : Tree) → Answers 1 q r → r ≡ answer q

-- room for more open questions would change nothing
abbrev pub FoundedAnyhow : Type 0
FoundedAnyhow = (d : ℕ) → 49 ≤ d → (q : Ask) → GoodAsk 1 q → solve d q ≡ outcome q

-- v stands in an operand from which groups of the answer come
abbrev pub among : Ask → ℕ → Bool
among (either f g) v = occurs f v || occurs g v
among (both f g) v = occurs f v || occurs g v
among (less f g) v = occurs f v
among (turn f) v = occurs f v
among (off f u) v = occurs f v
among (on f u) v = occurs f v

-- the members of the answer are among the operands'
abbrev pub MembersAmong : Type 0
MembersAmong = (q : Ask) → GoodAsk 1 q → (v : ℕ) → occurs (answer q) v ≡ true → among q v ≡ true

-- so where no operand has a member above n, the answer has none
abbrev pub UptoKept : Type 0
UptoKept = (n : ℕ) (q : Ask) → GoodAsk 1 q → ((v : ℕ) → among q v ≡ true → v ≤ n) → Upto n (answer q)

-- turn lists exactly the smallest stopping groups
abbrev pub TurnSmallest : Type 0
TurnSmallest = (f : Tree) → Good 1 f → (n : ℕ) → (lists (answer (turn f)) n ≡ true) ↔ Smallest (Stopping f) n

-- turning twice gives the family back
abbrev pub TurnTwice : Type 0
TurnTwice = (f : Tree) → Good 1 f → answer (turn (answer (turn f))) ≡ f
