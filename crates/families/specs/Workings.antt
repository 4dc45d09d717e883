-- What can be said of the workings of a question: its outcome unfolds, what it builds and asks is good, and few questions are open together.
use Rattle.std.specs.Prelude.{◌≡◌, ℕ, suc, ◌≤◌, ◌⊎◌, List, [], ◌∷◌, map, length}
use Rattle.std.specs.List.{ContainsAt as Has, AllByRecursion}
use Rattle.families.specs.Groups.{Falling}
use Rattle.families.specs.Trees.{Tree}
use Rattle.families.specs.Good.{Proper}
use Rattle.families.specs.Questions.{Ask, opens, split_at, sight}
use Rattle.families.specs.Scripts.{Script, builds, ask, script}
use Rattle.families.specs.Outcomes.{Outcome, run, opened, by_sight, outcome, answer}
use Rattle.families.specs.Meanings.{GoodAsk}

-- the outcome of a question, from the outcomes of those that it asks
abbrev pub Unfolding : Type 0
Unfolding = (q : Ask) → GoodAsk 1 q → outcome q ≡ by_sight (sight q) (opened q (run outcome (script q)))

-- every node that is built is a good tree, with members from 1 to 48
abbrev pub BuiltGood : Type 0
BuiltGood = (q : Ask) → GoodAsk 1 q → AllByRecursion Proper (outcome q).built

-- every question that is opened is good, and is not answered at sight
abbrev pub AskedGood : Type 0
AskedGood = (q : Ask) → GoodAsk 1 q → AllByRecursion (λ p. GoodAsk 1 p × (sight p ≡ opens)) (outcome q).asked

-- the script, rightly answered, asks p
abbrev pub Puts : Script → Ask → Type 0
Puts (builds v l h) p = ⊥
Puts (ask q k) p = (q ≡ p) ⊎ Puts (k (answer q)) p

-- what an open question asks has only members above the one at which it is split
abbrev pub PutsGood : Type 0
PutsGood = (b : ℕ) (q p : Ask) → GoodAsk b q → sight q ≡ opens → Puts (script q) p → GoodAsk (suc (split_at q)) p

-- open questions, the newest first: each is asked by the one that was opened before it
abbrev pub OpenTogether : List Ask → Type 0
OpenTogether [] = Unit {0}
OpenTogether (q ∷ []) = GoodAsk 1 q × (sight q ≡ opens)
OpenTogether (q ∷ p ∷ qs) = (sight q ≡ opens) × Puts (script p) q × OpenTogether (p ∷ qs)

-- the members at which open questions are split rise, so at most 48 are open together
abbrev pub OpenRise : Type 0
OpenRise = (qs : List Ask) → OpenTogether qs → Falling (map split_at qs) × (length qs ≤ 48)

-- each node and each question of the one outcome is among those of the other
pub record Part (o p : Outcome) : Type 0 where
  pub built : (t : Tree) → Has o.built t → Has p.built t
  pub asked : (q : Ask) → Has o.asked q → Has p.asked q

-- the workings of what an open question asks are among its own
abbrev pub WorkingsPart : Type 0
WorkingsPart = (q p : Ask) → GoodAsk 1 q → sight q ≡ opens → Puts (script q) p → Part (outcome p) (outcome q)
