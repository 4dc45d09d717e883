-- Scripts carried out with right answers: how an open question begins, goes on and ends.
use Rattle.std.proofs.Common.{◌≡◌, ℕ, suc, ◌≤◌, ◌⊎◌, List, ◌++◌, Some, None, sym, refl, ap, ◌∙◌, subst, inl, inr, ⊎_elim, arith}
use Rattle.interning.specs.Distinct.{◌∈◌, Within}
use Rattle.interning.proofs.Members.{in_left, in_right, in_either}
use Rattle.memos.specs.declared.diagram.Diagram.{Diagram}
use Rattle.families.specs.Trees.{Tree, build}
use Rattle.families.specs.Good.{Good}
use Rattle.families.specs.Questions.{Ask, Sight, seen, opens, sight, split_at}
use Rattle.families.specs.Scripts.{Script, builds, ask, script}
use Rattle.families.specs.Outcomes.{Outcome, made, after, run, opened, by_sight, outcome, answer}
use Rattle.families.specs.Meanings.{GoodAsk}
use Rattle.families.proofs.Scripts.{opens_fits, script_leads}
use Rattle.families.proofs.Solving.{answers_good, answer_right, outcome_unfolds}
use Rattle.diagrams.specs.Asking.{Seen}
use Rattle.diagrams.specs.Building.{Denotes}
use Rattle.diagrams.specs.Solving.{Arrives, Left}
use Rattle.diagrams.proofs.Settling.{within_joined}

-- a question that is not answered at sight
pub seen_none : (ts : List Tree) (s : Sight) → Seen ts None s → s ≡ opens
seen_none ts (seen t) f = absurd f
seen_none ts opens f = refl

-- what is seen is the answer, and nothing is built or opened for it
seen_arrives : (ts : List Tree) (T : Ask → Type 0) (d : Diagram) (q : Ask) (s : Sight) → outcome q ≡ by_sight s (opened q (run outcome (script q))) → Seen ts (Some d) s → Arrives ts T d q
seen_arrives ts T d q (seen t) e f = record {
  settled = record {
    denotes = subst (λ (o : Outcome). Denotes ts d o.answer) (sym e) f;
    held = subst (λ (o : Outcome). Within o.built ts) (sym e) (λ z m. absurd m);
  };
  tells = subst (λ (o : Outcome). (r : Ask) → r ∈ o.asked → T r) (sym e) (λ r m. absurd m);
}
seen_arrives ts T d q opens e f = absurd f

pub sight_arrives : (ts : List Tree) (T : Ask → Type 0) (d : Diagram) (q : Ask) → GoodAsk 1 q → Seen ts (Some d) (sight q) → Arrives ts T d q
sight_arrives ts T d q good f = seen_arrives ts T d q (sight q) (outcome_unfolds q good) f

-- the member at which an open question is split
pub split_below : (b : ℕ) (q : Ask) → GoodAsk b q → sight q ≡ opens → (b ≤ split_at q) × (split_at q ≤ 48)
split_below b q good e = let f = opens_fits b q good e in (f.0.0, f.0.1.1)

module _ (ts : List Tree) (T : Ask → Type 0) (q : Ask) (good : GoodAsk 1 q) (unseen : sight q ≡ opens) where
  opened_outcome : outcome q ≡ opened q (run outcome (script q))
  opened_outcome = outcome_unfolds q good ∙ ap (λ z. by_sight z (opened q (run outcome (script q)))) unseen

  pub left_begins : Left ts T q (script q)
  unfolding opened
  left_begins = record {
    leads = script_leads 1 q good unseen;
    comes = sym (ap (λ (o : Outcome). o.answer) opened_outcome);
    cover = λ t m. in_right ts (run outcome (script q)).built t (subst (λ (o : Outcome). t ∈ o.built) opened_outcome m);
    part = λ t m. subst (λ (o : Outcome). t ∈ o.built) (sym opened_outcome) m;
    others = λ r m.
        ⊎_elim (λ (e : r ≡ q). inl e) (λ (n : r ∈ (run outcome (script q)).asked). inr (inr n)) (subst (λ (o : Outcome). r ∈ o.asked) opened_outcome m);
    inside = λ r m. subst (λ (o : Outcome). r ∈ o.asked) (sym opened_outcome) (inr m);
  }

  -- a question that is opened is one of those that are opened for it
  pub opened_itself : q ∈ (outcome q).asked
  unfolding opened
  opened_itself = subst (λ (o : Outcome). q ∈ o.asked) (sym opened_outcome) (inl refl)

  pub left_goes : (p : Ask) (k : Tree → Script) (d : Diagram) → Arrives ts T d p → Left ts T q (ask p k) → Left ts T q (k (answer p))
  unfolding run after
  left_goes p k d a l =
      let held = a.settled.held in
      let fits = split_below 1 q good unseen in
      let next = (run outcome (k (answer p))).built in
      record {
        leads = l.leads.1 (answer p) (answer_right (suc (split_at q)) (omega arith) (omega arith) p l.leads.0);
        comes = l.comes;
        cover = λ t m. within_joined ts ((outcome p).built ++ next) (ts ++ next) (in_left ts next) (within_joined (outcome p).built next (ts ++ next) (λ z n. in_left ts next z (held z n)) (in_right ts next)) t (l.cover t m);
        part = λ t m. l.part t (in_right (outcome p).built next t m);
        others = λ r m.
            ⊎_elim (λ (e : r ≡ q). inl e)
            (⊎_elim (λ (h : T r). inr (inl h))
            (λ (n : r ∈ ((outcome p).asked ++ (run outcome (k (answer p))).asked)).
            ⊎_elim (λ (h : r ∈ (outcome p).asked). inr (inl (a.tells r h))) (λ (h : r ∈ (run outcome (k (answer p))).asked). inr (inr h)) (in_either (outcome p).asked (run outcome (k (answer p))).asked r n)))
            (l.others r m);
        inside = λ r m. l.inside r (in_right (outcome p).asked (run outcome (k (answer p))).asked r m);
      }

-- what is built for the next question is built for the whole
pub left_part : (ts : List Tree) (T : Ask → Type 0) (q p : Ask) (k : Tree → Script) → Left ts T q (ask p k) → Within (outcome p).built (outcome q).built
unfolding run after
left_part ts T q p k l t m = l.part t (in_left (outcome p).built (run outcome (k (answer p))).built t m)

-- what is opened for the next question is opened for the whole
pub left_inside : (ts : List Tree) (T : Ask → Type 0) (q p : Ask) (k : Tree → Script) → Left ts T q (ask p k) → Within (outcome p).asked (outcome q).asked
unfolding run after
left_inside ts T q p k l r m = l.inside r (in_left (outcome p).asked (run outcome (k (answer p))).asked r m)

-- what is left when the answer is to be built
module _ (ts : List Tree) (T : Ask → Type 0) (q : Ask) (v : ℕ) (l h : Tree) (left : Left ts T q (builds v l h)) where
  pub built_good : Good 1 (build v l h)
  built_good = answers_good 1 q (build v l h) left.leads

  pub built_answer : build v l h ≡ answer q
  unfolding run
  built_answer = left.comes

  pub built_cover : Within (outcome q).built (ts ++ made v l h)
  unfolding run
  built_cover = left.cover

  pub built_part : Within (made v l h) (outcome q).built
  unfolding run
  built_part = left.part

  pub built_others : (r : Ask) → r ∈ (outcome q).asked → (r ≡ q) ⊎ T r
  unfolding run
  built_others r m = ⊎_elim (λ (e : r ≡ q). inl e) (⊎_elim (λ (t : T r). inr t) (λ (f : ⊥). absurd f)) (left.others r m)
