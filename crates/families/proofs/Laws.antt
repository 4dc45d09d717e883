-- The answers to good questions, ready to cite.
use Rattle.std.proofs.Common.{◌≡◌, ℕ, ◌-◌, Bool, not, ◌&&◌, ◌||◌, map, filter, refl, ap, arith}
use Rattle.families.specs.Sets.{has, rest, without}
use Rattle.families.specs.Groups.{Member, weight, holds}
use Rattle.families.specs.Trees.{Tree, alone, passes, groups}
use Rattle.families.specs.Good.{Good, Proper}
use Rattle.families.specs.Questions.{Ask, either, both, less, turn, off, on}
use Rattle.families.specs.Outcomes.{answer}
use Rattle.families.specs.Meanings.{Answers, GoodAsk}
use Rattle.families.proofs.Canonical.{trees_once}
use Rattle.families.proofs.Solving.{answers_good, answer_right}
use Rattle.families.proofs.Cutting.{cuts}

pub question_answered : (q : Ask) → GoodAsk 1 q → Answers 1 q (answer q)
question_answered q k = answer_right 1 (omega arith) (omega arith) q k

pub good_answer : (q : Ask) → GoodAsk 1 q → Good 1 (answer q)
good_answer q k = answers_good 1 q (answer q) (question_answered q k)

module _ (f g : Tree) (k : Good 1 f) (m : Good 1 g) where
  pub good_either : Good 1 (answer (either f g))
  good_either = good_answer (either f g) (k, m)

  pub passes_either : (s : ℕ → Bool) → passes (answer (either f g)) s ≡ (passes f s || passes g s)
  passes_either s = (question_answered (either f g) (k, m)).asks s

  pub good_both : Good 1 (answer (both f g))
  good_both = good_answer (both f g) (k, m)

  pub passes_both : (s : ℕ → Bool) → passes (answer (both f g)) s ≡ (passes f s && passes g s)
  passes_both s = (question_answered (both f g) (k, m)).asks s

  pub good_less : Good 1 (answer (less f g))
  good_less = good_answer (less f g) (k, m)

  pub groups_less : groups (answer (less f g)) ≡ filter (λ n. not (passes g (holds n))) (groups f)
  groups_less = (question_answered (less f g) (k, m)).listed

module _ (f : Tree) (k : Good 1 f) where
  pub good_turn : Good 1 (answer (turn f))
  good_turn = good_answer (turn f) k

  pub passes_turn : (s : ℕ → Bool) → passes (answer (turn f)) s ≡ not (passes f (rest s))
  passes_turn s = (question_answered (turn f) k).asks s

  pub good_off : (u : ℕ) → Good 1 (answer (off f u))
  good_off u = good_answer (off f u) k

  pub passes_off : (u : ℕ) (s : ℕ → Bool) → passes (answer (off f u)) s ≡ passes f (without u s)
  passes_off u s = (cuts f k u).off_asks s

  pub groups_off : (u : ℕ) → groups (answer (off f u)) ≡ filter (λ n. not (holds n u)) (groups f)
  groups_off u = (question_answered (off f u) k).listed

  pub good_on : (u : ℕ) → Good 1 (answer (on f u))
  good_on u = good_answer (on f u) k

  pub groups_on : (u : ℕ) → groups (answer (on f u)) ≡ map (λ n. n - weight u) (filter (λ n. holds n u) (groups f))
  groups_on u = (question_answered (on f u) k).listed

-- one member alone
module _ (v : ℕ) (m : Member v) where
  pub proper_alone : Proper (alone v)
  proper_alone = record { good = record { fits = omega arith; low = tt; high = tt; some = refl; apart = (refl, tt) }; some = refl; more = refl }

  pub passes_alone : (s : ℕ → Bool) → passes (alone v) s ≡ s v
  passes_alone s = grind arith

-- good trees with the same list are one
pub groups_once : (s t : Tree) → Good 1 s → Good 1 t → groups s ≡ groups t → s ≡ t
groups_once s t k m e = trees_once 1 s t k m (λ n. ap (λ z. has z n) e)
