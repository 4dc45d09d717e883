use Rattle.std.proofs.Common.{MutBor, ℕ, ◌≡◌, ◌<◌, ◌≤◌, List, length, sym, refl, ◌∙◌, subst}
use Rattle.interning.proofs.Members.{apart_once}
use Rattle.memos.specs.declared.diagram.Diagram.{Diagram}
use Rattle.families.specs.Trees.{Tree}
use Rattle.families.specs.Questions.{Ask as Asked}
use Rattle.families.specs.Outcomes.{outcome}
use Rattle.std.proofs.lemmas.Result.{MatchResult-from_err}
use Rattle.diagrams.specs.Memory.{SameMemory, places, trees}
use Rattle.diagrams.specs.declared.nodes.NodeMemory.{NodeMemory}
use Rattle.diagrams.specs.declared.solve.Step.TheVariants.{Ask as Asking}
use Rattle.diagrams.specs.Solving.{Settled, Tallied, Works, load, needed}
use Rattle.diagrams.specs.Stacks.{stacked}
use Rattle.diagrams.proofs.Memories.{memory_apart, memory_fits}
use Rattle.diagrams.proofs.Merely.{closed_out, right_out}
use Rattle.diagrams.proofs.StackLists.{stacked_more, stacked_none}
use Rattle.diagrams.proofs.Stepping.{asks_once}
use Rattle.diagrams.proofs.Working.{works_start, works_puttable, works_put, works_ended, works_enough, works_tallied, works_due, works_taken, works_falls, works_short}
use Rattle.diagrams.proofs.solve.Solver.run.Goals as goal

-- the answer, and places enough for it
abbrev Affords : ℕ → List Tree → List Tree → Diagram → Asked → Type 0
Affords cap ts ts' d q = Settled ts' d q × (needed ts q ≤ cap)

pub loop-step-init : goal.loop-step-init
loop-step-init g c = (
  works_start (g.M.Memo.keeps c.args.self.now.memo.now) (trees c.args.self.now.nodes.now) (g.M.Memo.notes c.args.self.now.memo.now) c.args.question (stacked c.args.self.now.stack) c.args.self.now.opened c.requires.none_open c.requires.none_opened c.requires.asks (closed_out (trees c.args.self.now.nodes.now) (g.M.Memo.notes c.args.self.now.memo.now) (right_out (trees c.args.self.now.nodes.now) (g.M.Memo.notes c.args.self.now.memo.now) c.args.self.now.right) c.args.self.now.closed),
  (λ k. k),
  record { room = refl; named = refl },
  refl,
  refl,
)

pub put-step-requires : goal.put-step-requires
put-step-requires g c =
    let i = c.loop-step.invariant in
    record {
      puttable = works_puttable _ _ _ _ _ _ _ _ _ i.0 c.in-Ask.asked c.in-Ask.is;
    }

pub loop-step-smaller-in-Ask : goal.loop-step-smaller-in-Ask
loop-step-smaller-in-Ask g c =
    subst (λ s. load (stacked c.put-step.new.self.stack) c.put-step.result < load (stacked c.loop-step.self.stack) s) (sym c.in-Ask.is) c.put-step.ensures.steps.fewer

pub loop-step-preserved-in-Ask : goal.loop-step-preserved-in-Ask
loop-step-preserved-in-Ask g c =
    let i = c.loop-step.invariant in
    let put = c.put-step.ensures in
    let start = c.args.self.now in
    let memo = c.put-step.new.self.memo.now in
    let K = g.M.Memo.keeps memo in
    let ns = g.M.Memo.notes memo in
    let xs = stacked c.put-step.new.self.stack in
    let n = c.put-step.new.self.opened in
    subst
    (λ (nodes : MutBor NodeMemory).
    Works K (trees start.nodes.now) (g.M.Memo.notes start.memo.now) (trees nodes.now) ns (Asking c.args.question) xs n c.put-step.result
    × (K → g.M.Memo.keeps start.memo.now)
    × SameMemory start.nodes.now nodes.now
    × (nodes.ghost_name ≡ start.nodes.ghost_name)
    × (c.put-step.new.self.memo.ghost_name ≡ start.memo.ghost_name))
    (sym put.nodes) (
      works_put _ _ _ _ _ _ _ _ _ i.0 c.in-Ask.asked c.in-Ask.is K ns xs n _ c.put-step.result put.already put.counts put.steps,
      (λ k. i.1 (put.already k)),
      i.2,
      i.3,
      put.memo ∙ i.4,
    )

pub returns-in_default-clause-answer : goal.returns-in_default-clause-answer
returns-in_default-clause-answer g c q a =
    let i = c.loop-step.invariant in
    let ts = trees c.args.self.now.nodes.now in
    let ts' = trees c.loop-step.self.nodes.now in
    let ns = g.M.Memo.notes c.args.self.now.memo.now in
    let ended = stacked_none c.loop-step.self.stack c.in_default.ensures.variant.1 in
    let arrives = works_ended _ ts ns ts' _ _ _ _ _ i.0 c.in-Answer.answer c.in-Answer.is ended in
    let m = c.loop-step.self.nodes.now in
    let cap = places c.args.self.now.nodes.now in
    let enough = works_enough _ ts ns ts' _ _ _ _ _ i.0 c.in-Answer.answer c.in-Answer.is ended cap (apart_once ts' (memory_apart m)) (subst (λ n. length ts' ≤ n) i.2.room (memory_fits m)) in
    subst (Affords cap ts ts' c.in-Answer.answer) (asks_once ts c.args.question i.0.final q i.0.starts a) (arrives.settled, enough)

pub returns-in_default-clause-opened : goal.returns-in_default-clause-opened
returns-in_default-clause-opened g c k q a =
    let i = c.loop-step.invariant in
    let ts = trees c.args.self.now.nodes.now in
    let ts' = trees c.loop-step.self.nodes.now in
    let ns = g.M.Memo.notes c.args.self.now.memo.now in
    let ns' = g.M.Memo.notes c.loop-step.self.memo.now in
    let tallied = works_tallied _ ts ns ts' _ _ _ _ _ i.0 c.in-Answer.answer c.in-Answer.is (stacked_none c.loop-step.self.stack c.in_default.ensures.variant.1) in
    subst (λ (p : Asked). Tallied ts ns ts' ns' (outcome p).asked c.loop-step.self.opened) (asks_once ts c.args.question i.0.final q i.0.starts a) (tallied k)

pub take-requires : goal.take-requires
take-requires g c =
    let i = c.loop-step.invariant in
    record {
      due = works_due _ _ _ _ _ _ _ _ _ i.0 c.in-Answer.answer c.in-Answer.is c.in-Some.newest _ (stacked_more c.pop.new.self c.loop-step.self.stack c.in-Some.newest c.in-Some.ensures.items);
    }

pub loop-step-smaller : goal.loop-step-smaller
loop-step-smaller g c =
    let i = c.loop-step.invariant in
    works_falls _ _ _ _ _ _ _ _ _ i.0 c.in-Answer.answer c.in-Answer.is c.in-Some.newest _ (stacked_more c.pop.new.self c.loop-step.self.stack c.in-Some.newest c.in-Some.ensures.items) _ c.in_ok-step-in-Answer.ensures.takes.fewer

pub loop-step-preserved : goal.loop-step-preserved
loop-step-preserved g c =
    let i = c.loop-step.invariant in
    let taken = c.in_ok-step-in-Answer.ensures in
    let memo = c.take.new.self.memo.now in (
      works_taken _ _ _ _ _ _ _ _ _ i.0 c.in-Answer.answer c.in-Answer.is c.in-Some.newest _ (stacked_more c.pop.new.self c.loop-step.self.stack c.in-Some.newest c.in-Some.ensures.items) (g.M.Memo.keeps memo) (trees c.take.new.self.nodes.now) (g.M.Memo.notes memo) (stacked c.take.new.self.stack) c.take.new.self.opened _ c.in_ok-step-in-Answer.step taken.already taken.counts taken.grows taken.takes,
      (λ k. i.1 (taken.already k)),
      record { room = taken.same.room ∙ i.2.room; named = taken.same.named ∙ i.2.named },
      taken.nodes ∙ i.3,
      taken.memo ∙ i.4,
    )

pub returns-in_err-step-in-Answer-clause-answer : goal.returns-in_err-step-in-Answer-clause-answer
returns-in_err-step-in-Answer-clause-answer g c q a =
    let i = c.loop-step.invariant in
    let ts = trees c.args.self.now.nodes.now in
    let ts' = trees c.loop-step.self.nodes.now in
    let once = apart_once ts' (memory_apart c.loop-step.self.nodes.now) in
    let newest = stacked_more c.pop.new.self c.loop-step.self.stack c.in-Some.newest c.in-Some.ensures.items in
    let short = works_short _ ts _ ts' _ _ _ _ _ i.0 c.in-Answer.answer c.in-Answer.is c.in-Some.newest _ newest (places c.loop-step.self.nodes.now) (trees c.take.new.self.nodes.now) once c.in_err-step-in-Answer.ensures.takes in
    MatchResult-from_err c.from_residual.result _ _ c.from_residual.ensures.0 (λ _.
    subst (λ (p : Asked). places c.args.self.now.nodes.now < needed ts p) (asks_once ts c.args.question i.0.final q i.0.starts a) (subst (λ n. n < needed ts i.0.final) i.2.room short))
