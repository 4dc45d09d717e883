-- Every good question is answered rightly, with its workings, and no fuel shows.
use Rattle.std.proofs.Common.{◌≡◌, ℕ, zero, suc, ◌+◌, ◌≤◌, sym, refl, ap, ◌∙◌, subst, arith}
use Rattle.families.specs.Trees.{Tree}
use Rattle.families.specs.Good.{Good}
use Rattle.families.specs.Questions.{Ask, either, both, less, turn, off, on, Sight, seen, opens, split_at, sight}
use Rattle.families.specs.Scripts.{Script, builds, ask, script}
use Rattle.families.specs.Outcomes.{Outcome, given, after, run, opened, by_sight, solve, outcome, answer}
use Rattle.families.specs.Meanings.{Answers, GoodAsk}
use Rattle.families.specs.Leads.{Sees, Leads}
use Rattle.families.specs.Workings.{Unfolding}
use Rattle.families.proofs.Listing.{good_member}
use Rattle.families.proofs.Sights.{sight_right}
use Rattle.families.proofs.Scripts.{opens_fits, script_leads}

pub answers_good : (b : ℕ) (q : Ask) (t : Tree) → Answers b q t → Good b t
answers_good b (either f g) t k = k.good
answers_good b (both f g) t k = k.good
answers_good b (less f g) t k = k.good
answers_good b (turn f) t k = k.good
answers_good b (off f u) t k = k.good
answers_good b (on f u) t k = k.good

pub good_ask_member : (b : ℕ) (q : Ask) → GoodAsk b q → GoodAsk 1 q
good_ask_member b (either f g) k = (good_member b f k.0, good_member b g k.1)
good_ask_member b (both f g) k = (good_member b f k.0, good_member b g k.1)
good_ask_member b (less f g) k = (good_member b f k.0, good_member b g k.1)
good_ask_member b (turn f) k = good_member b f k
good_ask_member b (off f u) k = good_member b f k
good_ask_member b (on f u) k = good_member b f k

-- fuel d is enough for questions with members from b on
abbrev pub Enough : ℕ → ℕ → Type 0
Enough d b = (b ≤ 49) × (50 ≤ b + d)

-- a script carried out by whoever answers rightly
module _ (b c : ℕ) (q : Ask) (s : Ask → Outcome) (right : (p : Ask) → GoodAsk c p → Answers c p (s p).answer) where
  run_right : (k : Script) → Leads b c q k → Answers b q (run s k).answer
  unfolding run after
  run_right (builds v l h) m = m
  run_right (ask p k) m = run_right (k (s p).answer) (m.1 (s p).answer (right p m.0))

  run_same : (t : Ask → Outcome) → ((p : Ask) → GoodAsk c p → s p ≡ t p) → (k : Script) → Leads b c q k → run s k ≡ run t k
  unfolding run
  run_same t e (builds v l h) m = refl
  run_same t e (ask p k) m =
      let i = run_same t e (k (s p).answer) (m.1 (s p).answer (right p m.0)) in
      let d = e p m.0 in
      ap (after (s p)) i ∙ ap (λ o. after o (run t (k o.answer))) d

-- one question, its script carried out by s
unfoldable pub worked : (Ask → Outcome) → Ask → Outcome
worked s q = by_sight (sight q) (opened q (run s (script q)))

pub solve_step : (d : ℕ) (q : Ask) → solve (suc d) q ≡ worked (solve d) q
unfolding solve worked
solve_step d q = at_sight (sight q)
  where
    at_sight : (s : Sight) → (elim s as (λ z. Outcome) [ seen t ↦ given t | opens ↦ opened q (run (solve d) (script q)) ]) ≡ by_sight s (opened q (run (solve d) (script q)))
    at_sight (seen t) = refl
    at_sight opens = refl

module _ (b : ℕ) (q : Ask) (k : GoodAsk b q) (s : Ask → Outcome)
    (right : sight q ≡ opens → (p : Ask) → GoodAsk (suc (split_at q)) p → Answers (suc (split_at q)) p (s p).answer) where
  worked_right : Answers b q (worked s q).answer
  unfolding worked opened
  worked_right = at_sight (sight q) refl
    where
      at_sight : (z : Sight) → sight q ≡ z → Answers b q (by_sight z (opened q (run s (script q)))).answer
      at_sight (seen t) e = subst (Sees b q) e (sight_right b q k)
      at_sight opens e = run_right b (suc (split_at q)) q s (right e) (script q) (script_leads b q k e)

  worked_same : (t : Ask → Outcome) → (sight q ≡ opens → (p : Ask) → GoodAsk (suc (split_at q)) p → s p ≡ t p) → worked s q ≡ worked t q
  unfolding worked
  worked_same t h = at_sight (sight q) refl
    where
      at_sight : (z : Sight) → sight q ≡ z → by_sight z (opened q (run s (script q))) ≡ by_sight z (opened q (run t (script q)))
      at_sight (seen t) e = refl
      at_sight opens e = ap (opened q) (run_same b (suc (split_at q)) q s (right e) t (h e) (script q) (script_leads b q k e))

pub enough_below : (d b : ℕ) (q : Ask) → Enough (suc d) b → GoodAsk b q → sight q ≡ opens → Enough d (suc (split_at q))
enough_below d b q p k e = let f = opens_fits b q k e in omega arith

pub solve_right : (d b : ℕ) → Enough d b → (q : Ask) → GoodAsk b q → Answers b q (solve d q).answer
solve_right zero b p q k = absurd (omega arith)
solve_right (suc d) b p q k = subst (λ o. Answers b q o.answer) (sym (solve_step d q)) (worked_right b q k (solve d) (λ e. solve_right d (suc (split_at q)) (enough_below d b q p k e)))

-- enough fuel is as good as any
pub solve_same : (d e b : ℕ) → Enough d b → Enough e b → (q : Ask) → GoodAsk b q → solve d q ≡ solve e q
solve_same zero e b p r q k = absurd (omega arith)
solve_same (suc d) zero b p r q k = absurd (omega arith)
solve_same (suc d) (suc e) b p r q k = solve_step d q
    ∙ worked_same b q k (solve d) (λ h. solve_right d (suc (split_at q)) (enough_below d b q p k h)) (solve e)
    (λ h. solve_same d e (suc (split_at q)) (enough_below d b q p k h) (enough_below e b q r k h))
    ∙ sym (solve_step e q)

pub answer_right : (b : ℕ) → 1 ≤ b → b ≤ 49 → (q : Ask) → GoodAsk b q → Answers b q (answer q)
unfolding outcome
answer_right b o p q k = solve_right 49 b (omega arith) q k

pub outcome_unfolds : Unfolding
unfolding outcome worked
outcome_unfolds q k = solve_step 48 q
    ∙ worked_same 1 q k (solve 48) (λ h. solve_right 48 (suc (split_at q)) (enough_below 48 1 q (omega arith) k h)) (solve 49)
    (λ h. solve_same 48 49 (suc (split_at q)) (enough_below 48 1 q (omega arith) k h) (let f = opens_fits 1 q k h in omega arith))
