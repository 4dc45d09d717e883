-- What is built and asked on the way to an answer.
use Rattle.std.proofs.Common.{◌≡◌, ℕ, zero, suc, ◌<◌, ◌≤◌, List, [], ◌∷◌, map, length, sym, refl, ap, ◌∙◌, subst, ⊎_elim, arith}
use Rattle.std.specs.List.{AllByRecursion}
use Rattle.std.proofs.ByRecursion.{All-append, All-weaker, has_append_left, has_append_right}
use Rattle.families.specs.Groups.{Falling}
use Rattle.families.specs.Trees.{Tree, none, always, node, build}
use Rattle.families.specs.Good.{Good, Proper}
use Rattle.families.specs.Questions.{Ask, Sight, seen, opens, split_at, sight}
use Rattle.families.specs.Scripts.{Script, builds, ask, script}
use Rattle.families.specs.Outcomes.{Outcome, made, after, run, opened, by_sight, solve, outcome, answer}
use Rattle.families.specs.Meanings.{Answers, GoodAsk}
use Rattle.families.specs.Leads.{Leads}
use Rattle.families.specs.Workings.{Part, WorkingsPart, Puts, OpenTogether, BuiltGood, AskedGood, PutsGood, OpenRise}
use Rattle.families.proofs.Listing.{good_member}
use Rattle.families.proofs.Scripts.{opens_fits, script_leads}
use Rattle.families.proofs.Solving.{outcome_unfolds, answers_good, good_ask_member, Enough, enough_below, worked, solve_step, solve_right, answer_right}

-- what holds of the nodes and of the questions of an outcome
abbrev Sound : Outcome → Type 0
Sound o = AllByRecursion Proper o.built × AllByRecursion (λ p. GoodAsk 1 p × (sight p ≡ opens)) o.asked

made_nodes : (b v : ℕ) (l h : Tree) → Good b (build v l h) → AllByRecursion Proper (made v l h)
made_nodes b v l none k = tt
made_nodes b v l always k = (record { good = good_member b (node v l always) k; some = refl; more = refl }, tt)
made_nodes b v l (node w a c) k = (record { good = good_member b (node v l (node w a c)) k; some = refl; more = refl }, tt)

module _ (b c : ℕ) (q : Ask) (s : Ask → Outcome) (right : (p : Ask) → GoodAsk c p → Answers c p (s p).answer) (sound : (p : Ask) → GoodAsk c p → Sound (s p)) where
  run_sound : (k : Script) → Leads b c q k → Sound (run s k)
  unfolding run after
  run_sound (builds v l h) m = (made_nodes b v l h (answers_good b q (build v l h) m), tt)
  run_sound (ask p k) m =
      let i = run_sound (k (s p).answer) (m.1 (s p).answer (right p m.0)) in
      let o = sound p m.0 in (
        All-append Proper (s p).built (run s (k (s p).answer)).built o.0 i.0,
        All-append (λ p. GoodAsk 1 p × (sight p ≡ opens)) (s p).asked (run s (k (s p).answer)).asked o.1 i.1,
      )

worked_sound : (b : ℕ) (q : Ask) → GoodAsk b q → (s : Ask → Outcome)
    → (sight q ≡ opens → (p : Ask) → GoodAsk (suc (split_at q)) p → Answers (suc (split_at q)) p (s p).answer)
    → (sight q ≡ opens → (p : Ask) → GoodAsk (suc (split_at q)) p → Sound (s p)) → Sound (worked s q)
unfolding worked opened
worked_sound b q k s right sound = at_sight (sight q) refl
  where
    at_sight : (z : Sight) → sight q ≡ z → Sound (by_sight z (opened q (run s (script q))))
    at_sight (seen t) e = (tt, tt)
    at_sight opens e =
        let i = run_sound b (suc (split_at q)) q s (right e) (sound e) (script q) (script_leads b q k e) in
        (i.0, ((good_ask_member b q k, e), i.1))

solve_sound : (d b : ℕ) → Enough d b → (q : Ask) → GoodAsk b q → Sound (solve d q)
solve_sound zero b p q k = absurd (omega arith)
solve_sound (suc d) b p q k = subst Sound (sym (solve_step d q)) (worked_sound b q k (solve d)
    (λ e. solve_right d (suc (split_at q)) (enough_below d b q p k e))
    (λ e. solve_sound d (suc (split_at q)) (enough_below d b q p k e)))

pub built_good : BuiltGood
unfolding outcome
built_good q k = (solve_sound 49 1 (omega arith) q k).0

pub asked_good : AskedGood
unfolding outcome
asked_good q k = (solve_sound 49 1 (omega arith) q k).1

-- open questions
leads_puts : (b c : ℕ) (q p : Ask) → 1 ≤ c → c ≤ 49 → (k : Script) → Leads b c q k → Puts k p → GoodAsk c p
leads_puts b c q p o f (builds v l h) m e = absurd e
leads_puts b c q p o f (ask r k) m e = ⊎_elim (λ d. subst (GoodAsk c) d m.0) (λ d. leads_puts b c q p o f (k (answer r)) (m.1 (answer r) (answer_right c o f r m.0)) d) e

pub puts_good : PutsGood
puts_good b q p k e h = let f = opens_fits b q k e in leads_puts b (suc (split_at q)) q p (omega arith) (omega arith) (script q) (script_leads b q k e) h

-- the newest open question, its depth and its member
record Newest (q : Ask) (qs : List Ask) : Type 0 where
  good : GoodAsk 1 q
  opens : sight q ≡ opens
  upto : split_at q ≤ 48
  deep : length (q ∷ qs) ≤ split_at q
  falls : Falling (split_at q ∷ map split_at qs)

newest : (q : Ask) (qs : List Ask) → OpenTogether (q ∷ qs) → Newest q qs
newest q [] h = let f = opens_fits 1 q h.0 h.1 in record { good = h.0; opens = h.1; upto = omega arith; deep = omega arith; falls = (tt, tt) }
newest q (p ∷ qs) h =
    let n = newest p qs h.2 in
    let g = puts_good 1 p q n.good n.opens h.1 in
    let f = opens_fits (suc (split_at p)) q g h.0 in
    let l : split_at p < split_at q = omega arith in
    let d = n.deep in
    let w = All-weaker (λ m. m < split_at p) (λ m. m < split_at q) (λ m r. omega arith) (map split_at qs) n.falls.0 in
    record { good = good_ask_member (suc (split_at p)) q g; opens = h.0; upto = omega arith; deep = omega arith; falls = ((l, w), n.falls) }

pub open_rise : OpenRise
open_rise [] h = (tt, omega arith)
open_rise (q ∷ qs) h = let n = newest q qs h in (n.falls, let d = n.deep in let u = n.upto in omega arith)

-- the workings of what is asked are among those of the whole
part_of : (o p : Outcome) → Part o (after o p)
unfolding after
part_of o p = record { built = λ t h. has_append_left o.built p.built t h; asked = λ q h. has_append_left o.asked p.asked q h }

part_after : (r o p : Outcome) → Part r p → Part r (after o p)
unfolding after
part_after r o p h = record { built = λ t x. has_append_right o.built p.built t (h.built t x); asked = λ q x. has_append_right o.asked p.asked q (h.asked q x) }

puts_part : (k : Script) (p : Ask) → Puts k p → Part (outcome p) (run outcome k)
unfolding run
puts_part (builds v l h) p e = absurd e
puts_part (ask q k) p e = ⊎_elim
    (λ d. subst (λ r. Part (outcome r) (after (outcome q) (run outcome (k (answer q))))) d (part_of (outcome q) (run outcome (k (answer q)))))
    (λ d. part_after (outcome p) (outcome q) (run outcome (k (answer q))) (puts_part (k (answer q)) p d)) e

part_opened : (q : Ask) (o p : Outcome) → Part o p → Part o (opened q p)
unfolding opened
part_opened q o p h = record { built = h.built; asked = λ r x. has_append_right (q ∷ []) p.asked r (h.asked r x) }

pub workings_part : WorkingsPart
workings_part q p k e h = subst (Part (outcome p)) (sym (outcome_unfolds q k ∙ ap (λ z. by_sight z (opened q (run outcome (script q)))) e))
    (part_opened q (outcome p) (run outcome (script q)) (puts_part (script q) p h))
