-- What comes of a question: its answer, and the nodes built and questions opened on the way, were there no notes.
use Rattle.std.specs.Prelude.{ℕ, zero, suc, ◌+◌, List, [], ◌∷◌, ◌++◌}
use Rattle.families.specs.Trees.{Tree, none, always, node, build}
use Rattle.families.specs.Questions.{Ask, Sight, seen, opens, sight}
use Rattle.families.specs.Scripts.{Script, builds, ask, script}

pub record Outcome : Type 0 where
  -- what the question gives
  pub answer : Tree
  -- every node built, in order
  pub built : List Tree
  -- every question opened, in order
  pub asked : List Ask
  -- how many questions were put, with those answered at sight
  pub steps : ℕ

-- answered at sight
abbrev pub given : Tree → Outcome
given t = record { answer = t; built = []; asked = []; steps = 1 }

-- the nodes that a build makes: one, or none
abbrev pub made : ℕ → Tree → Tree → List Tree
made v l none = []
made v l always = node v l always ∷ []
made v l (node w a b) = node v l (node w a b) ∷ []

-- one outcome after another, whose answer counts
unfoldable pub after : Outcome → Outcome → Outcome
after o p = record { answer = p.answer; built = o.built ++ p.built; asked = o.asked ++ p.asked; steps = o.steps + p.steps }

-- a script carried out, its questions answered by s
unfoldable pub run : (Ask → Outcome) → Script → Outcome
run s (builds v l h) = record { answer = build v l h; built = made v l h; asked = []; steps = 1 }
run s (ask q k) = let o = s q in after o (run s (k o.answer))

-- the question itself was opened, before all others
unfoldable pub opened : Ask → Outcome → Outcome
opened q o = record { answer = o.answer; built = o.built; asked = q ∷ o.asked; steps = o.steps }

-- what is seen, or else the outcome of opening
abbrev pub by_sight : Sight → Outcome → Outcome
by_sight (seen t) o = given t
by_sight opens o = o

-- a question worked out, with less than d questions open together
unfoldable pub solve : ℕ → Ask → Outcome
solve zero q = given none
solve (suc d) q = elim (sight q) [ seen t ↦ given t | opens ↦ opened q (run (solve d) (script q)) ]

-- what comes of a question: 48 open together are enough
unfoldable pub outcome : Ask → Outcome
outcome q = solve 49 q

-- the family that a question asks for
abbrev pub answer : Ask → Tree
answer q = (outcome q).answer
