-- The work on one question, from its first step to its answer.
use Rattle.std.proofs.Common.{◌≡◌, ℕ, ◌<◌, ◌≤◌, List, [], ◌∷◌, ◌++◌, length, sym, refl, subst, arith}
use Rattle.interning.specs.Distinct.{Within, NoRepeat}
use Rattle.interning.proofs.Distinct.{counts}
use Rattle.interning.proofs.Members.{in_right}
use Rattle.memos.specs.declared.diagram.Diagram.{Diagram}
use Rattle.memos.specs.declared.question.Question.{Question}
use Rattle.memos.specs.Notes.{Note}
use Rattle.families.specs.Trees.{Tree, equal}
use Rattle.families.specs.Questions.{Ask}
use Rattle.families.specs.Outcomes.{outcome}
use Rattle.families.specs.Meanings.{GoodAsk}
use Rattle.diagrams.specs.declared.solve.Step.{Step}
use Rattle.diagrams.specs.declared.solve.Step.TheVariants.{Ask as Asking, Answer as Answering}
use Rattle.diagrams.specs.declared.solve.Pending.{Pending}
use Rattle.diagrams.specs.Asking.{Asks, ask_at}
use Rattle.diagrams.specs.Building.{Lacks}
use Rattle.diagrams.specs.Solving.{AllRight, Arrives, Closed, CountsOn, Grows, Chain, Due, Puttable, Runs, Tally, Tallied, Works, Steps, load, needed, told}
use Rattle.diagrams.proofs.Merely.{trees_exact}
use Rattle.diagrams.proofs.Settling.{within_joined, kept_trans, kept_within}
use Rattle.diagrams.proofs.Stepping.{chain_part, grows_none}
use Rattle.diagrams.proofs.Tallying.{tally_done, tally_start}

pub works_start : (keeps : Type 0) (ts : List Tree) (ns : List Note) (question : Question) (xs : List Pending) (n : ℕ) → xs ≡ [] → n ≡ 0 → ((q : Ask) × Asks ts question q × GoodAsk 1 q)
    → (keeps → Closed ts ns) → Works keeps ts ns ts ns (Asking question) xs n (Asking question)
works_start keeps ts ns question xs n e none h closed = record {
  final = h.0;
  starts = h.1;
  grows = grows_none ts ts h.0 refl;
  runs = subst (λ ys. Runs ts (told keeps ts ns) h.0 ys (Asking question)) (sym e) (record { this = h.0; from = 1; asks = h.1; good = h.2; deep = omega arith }, refl);
  tally = λ k. subst (Tally ts ns ts ns h.0 xs) (sym none) (tally_start ts ns h.0 xs e (closed k));
}

module _ (keeps : Type 0) (ts : List Tree) (ns : List Note) (ts' : List Tree) (ns' : List Note) (first : Step) (ys : List Pending) (n : ℕ) (step : Step)
    (w : Works keeps ts ns ts' ns' first ys n step) where
  pub works_closed : keeps → Closed ts' ns'
  works_closed k = (w.tally k).closed

  -- the next step asks a question
  module _ (question : Question) (e : step ≡ Asking question) where
    asked : Runs ts' (told keeps ts' ns') w.final ys (Asking question)
    asked = subst (λ s. Runs ts' (told keeps ts' ns') w.final ys s) e w.runs

    pub works_puttable : Puttable ts' (length ys) question
    works_puttable = asked.0

    chain : Chain ts' (told keeps ts' ns') w.final ys (ask_at ts' question)
    chain = subst (λ p. Chain ts' (told keeps ts' ns') w.final ys p) (sym asked.0.asks.is) asked.1

    pub works_put : (keeps' : Type 0) (ns'' : List Note) (zs : List Pending) (n' k : ℕ) (next : Step) → (keeps' → keeps)
        → CountsOn keeps keeps' ts' ns' ts' ns'' (ask_at ts' question) ys ys zs n n' → Steps ts' (told keeps ts' ns') ts' (told keeps' ts' ns'') (ask_at ts' question) ys zs k next
        → Works keeps' ts ns ts' ns'' first zs n' next
    works_put keeps' ns'' zs n' k next already counts s = record {
      final = w.final;
      starts = w.starts;
      grows = w.grows;
      runs = s.runs w.final chain;
      tally = λ h. counts h ts ns w.final chain (w.tally (already h));
    }

  -- the next step takes an answer
  module _ (d : Diagram) (e : step ≡ Answering d) where
    arrived : Runs ts' (told keeps ts' ns') w.final ys (Answering d)
    arrived = subst (λ s. Runs ts' (told keeps ts' ns') w.final ys s) e w.runs

    -- no question is open
    pub works_ended : ys ≡ [] → Arrives ts' (told keeps ts' ns') d w.final
    works_ended i = subst (Arrives ts' (told keeps ts' ns') d) (subst (λ zs. Chain ts' (told keeps ts' ns') w.final zs arrived.0) i arrived.2) arrived.1

    pub works_tallied : ys ≡ [] → keeps → Tallied ts ns ts' ns' (outcome w.final).asked n
    works_tallied i k = tally_done ts ns ts' ns' w.final n (λ r m. (works_ended i).tells r m k) (subst (λ zs. Tally ts ns ts' ns' w.final zs n) i (w.tally k))

    -- what was held and what was built had places
    pub works_enough : ys ≡ [] → (cap : ℕ) → NoRepeat ts' → length ts' ≤ cap → needed ts w.final ≤ cap
    works_enough i cap once few =
        let all : Within (ts ++ (outcome w.final).built) ts' = within_joined ts (outcome w.final).built ts' (kept_within ts ts' w.grows.kept) (works_ended i).settled.held in
        let counted = counts Tree equal trees_exact ts' (ts ++ (outcome w.final).built) once w.grows.only in
        omega (arith, counted.all all)

    -- x is the newest open question
    module _ (x : Pending) (xs : List Pending) (i : ys ≡ x ∷ xs) where
      below : Chain ts' (told keeps ts' ns') w.final (x ∷ xs) arrived.0
      below = subst (λ zs. Chain ts' (told keeps ts' ns') w.final zs arrived.0) i arrived.2

      pub works_due : Due ts' (told keeps ts' ns') (length xs) x d
      works_due = record { this = below.0; next = arrived.0; pends = below.1; arrives = arrived.1 }

      newest : Chain ts' (told keeps ts' ns') w.final xs (ask_at ts' x.question)
      newest = subst (λ p. Chain ts' (told keeps ts' ns') w.final xs p) (sym below.1.asks.is) below.2

      inside : Within (outcome (ask_at ts' x.question)).built (ts ++ (outcome w.final).built)
      inside t m = in_right ts (outcome w.final).built t (chain_part ts' (told keeps ts' ns') w.final xs (ask_at ts' x.question) newest t m)

      pub works_grown : (ts'' : List Tree) → Grows ts' ts'' (ask_at ts' x.question) → Grows ts ts'' w.final
      works_grown ts'' g = record {
        kept = kept_trans ts ts' ts'' w.grows.kept g.kept;
        only = λ t m. within_joined ts' (outcome (ask_at ts' x.question)).built (ts ++ (outcome w.final).built) w.grows.only inside t (g.only t m);
      }

      pub works_taken : (keeps' : Type 0) (ts'' : List Tree) (ns'' : List Note) (zs : List Pending) (n' k : ℕ) (next : Step) → (keeps' → keeps)
          → CountsOn keeps keeps' ts' ns' ts'' ns'' (ask_at ts' x.question) xs (x ∷ xs) zs n n' → Grows ts' ts'' (ask_at ts' x.question)
          → Steps ts' (told keeps ts' ns') ts'' (told keeps' ts'' ns'') (ask_at ts' x.question) xs zs k next → Works keeps' ts ns ts'' ns'' first zs n' next
      works_taken keeps' ts'' ns'' zs n' k next already counts g s = record {
        final = w.final;
        starts = w.starts;
        grows = works_grown ts'' g;
        runs = s.runs w.final newest;
        tally = λ h. counts h ts ns w.final newest (subst (λ us. Tally ts ns ts' ns' w.final us n) i (w.tally (already h)));
      }

      pub works_falls : (k : ℕ) → k < load (x ∷ xs) (Answering d) → k < load ys step
      works_falls k h = subst (λ s. k < load ys s) (sym e) (subst (λ zs. k < load zs (Answering d)) (sym i) h)

      -- there is no place for what is built
      pub works_short : (cap : ℕ) (ts'' : List Tree) → NoRepeat ts' → Lacks cap ts' (outcome (ask_at ts' x.question)).built ts'' → cap < needed ts w.final
      works_short cap ts'' once k =
          let counted = counts Tree equal trees_exact ts' (ts ++ (outcome w.final).built) once w.grows.only in
          let full = k.full in
          omega (arith, counted.lacks k.missing (inside k.missing k.among) k.absent)

-- the same at equal trees and notes
module _ (ts ts' : List Tree) (ns ns' : List Note) (e : ts' ≡ ts) (f : ns' ≡ ns) where
  pub right_at : AllRight ts ns → AllRight ts' ns'
  right_at h = subst (λ us. AllRight us ns') (sym e) (subst (AllRight ts) (sym f) h)

  pub closed_at : Closed ts ns → Closed ts' ns'
  closed_at h = subst (λ us. Closed us ns') (sym e) (subst (Closed ts) (sym f) h)

pub grows_at : (us ts ts' : List Tree) (q : Ask) → ts' ≡ ts → Grows us ts q → Grows us ts' q
grows_at us ts ts' q e h = subst (λ vs. Grows us vs q) (sym e) h
