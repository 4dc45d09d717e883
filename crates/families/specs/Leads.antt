-- The script of a good question, over right answers: what it asks is good again, and has only larger members.
use Rattle.std.specs.Prelude.{◌≡◌, ℕ, suc, ◌<◌}
use Rattle.families.specs.Trees.{Tree, build}
use Rattle.families.specs.Good.{Fits}
use Rattle.families.specs.Questions.{Ask, either, both, less, turn, off, on, Sight, seen, opens, sight, split_at}
use Rattle.families.specs.Scripts.{Script, builds, ask, script}
use Rattle.families.specs.Meanings.{Answers, GoodAsk}

-- u is still ahead of the member v at which off and on are split
abbrev pub Ahead : Ask → ℕ → Type 0
Ahead (either f g) v = Unit {0}
Ahead (both f g) v = Unit {0}
Ahead (less f g) v = Unit {0}
Ahead (turn f) v = Unit {0}
Ahead (off f u) v = v < u
Ahead (on f u) v = v < u

-- what is seen of q is its answer, and where q is to be opened, the member at which it is split is one from b on
abbrev pub Sees : ℕ → Ask → Sight → Type 0
Sees b q (seen t) = Answers b q t
Sees b q opens = Fits b (split_at q) × Ahead q (split_at q)

-- each question that the script asks is good with members from c on, whatever right answers it gets, and it builds the answer to q
abbrev pub Leads : ℕ → ℕ → Ask → Script → Type 0
Leads b c q (builds v l h) = Answers b q (build v l h)
Leads b c q (ask p k) = GoodAsk c p × ((t : Tree) → Answers c p t → Leads b c q (k t))

-- what is seen of a good question is right
abbrev pub SightRight : Type 0
SightRight = (b : ℕ) (q : Ask) → GoodAsk b q → Sees b q (sight q)

-- a good question that is opened asks good questions, with members above its own, and builds its answer
abbrev pub ScriptLeads : Type 0
ScriptLeads = (b : ℕ) (q : Ask) → GoodAsk b q → sight q ≡ opens → Leads b (suc (split_at q)) q (script q)
