-- An answer is taken to the open question that waits for it.
use Rattle.std.proofs.Common.{◌≡◌, ℕ, suc, ◌+◌, ◌-◌, ◌*◌, ◌<◌, List, ◌∷◌, length, sym, subst, ⊎_elim, arith}
use Rattle.interning.specs.Distinct.{◌∈◌}
use Rattle.memos.specs.declared.diagram.Diagram.{Diagram}
use Rattle.families.specs.Trees.{Tree, build}
use Rattle.families.specs.Questions.{Ask}
use Rattle.families.specs.Scripts.{Script}
use Rattle.families.specs.Outcomes.{made, outcome, answer}
use Rattle.diagrams.specs.declared.frames.Wait.{Wait}
use Rattle.diagrams.specs.declared.node.Node.{Node}
use Rattle.diagrams.specs.declared.solve.Step.TheVariants.{Ask as Asking, Answer as Answering}
use Rattle.diagrams.specs.declared.solve.Pending.{Pending}
use Rattle.diagrams.specs.Asking.{ask_at}
use Rattle.diagrams.specs.Building.{Fitting, Lacks, Made}
use Rattle.diagrams.specs.Frames.{Waits, Builds, ahead}
use Rattle.diagrams.specs.Solving.{Right, Grows, Left, Due, Steps, span, weight}
use Rattle.diagrams.proofs.FramesKept.{asks_kept}
use Rattle.diagrams.proofs.Scripted.{split_below, left_goes}
use Rattle.diagrams.proofs.Measured.{ending_falls}
use Rattle.diagrams.proofs.Stepping.{step_answers, step_waits, builds_fitting, built_settled, built_grows, built_lacks, built_tells}

module _ (ts : List Tree) (T : Ask → Type 0) (xs : List Pending) (x : Pending) (d : Diagram) (due : Due ts T (length xs) x d) where
  -- what the open question still does with the answer
  abbrev pub rest : Script
  rest = due.pends.then (answer due.next)

  rest_left : Left ts T due.this rest
  rest_left = left_goes ts T due.this due.pends.good due.pends.unseen due.next due.pends.then d due.arrives due.pends.left

  pub take_deep : length xs < 48
  take_deep = let s = split_below 1 due.this due.pends.good due.pends.unseen in let n = due.pends.deep in omega arith

  -- it asks on
  pub take_waits : (w : Wait) (ys : List Pending) → Waits ts w rest → ahead w.frame < ahead x.frame → ys ≡ record { question = x.question; frame = w.frame } ∷ xs
      → Steps ts T ts T (ask_at ts x.question) xs ys (suc (ahead x.frame) * span (48 - length xs) + weight xs) (Asking w.question)
  take_waits w ys waits less e =
      let p = due.pends in
      subst (λ q. Steps ts T ts T q xs ys (suc (ahead x.frame) * span (48 - length xs) + weight xs) (Asking w.question)) (sym p.asks.is)
      (step_waits ts T T (λ r h. h) due.this x.question p.asks p.good p.unseen w xs ys (suc (ahead x.frame)) rest p.deep (omega arith) rest_left waits e)

  -- it builds its own answer
  module _ (k : Node) (b : Builds ts k rest) where
    pub take_fitting : Fitting ts k
    take_fitting = builds_fitting ts T due.this k rest rest_left b

    pub take_lacks : (cap : ℕ) (ts' : List Tree) → Lacks cap ts (made k.member b.low_tree b.high_tree) ts' → Lacks cap ts (outcome (ask_at ts x.question)).built ts'
    take_lacks cap ts' l = subst (λ (q : Ask). Lacks cap ts (outcome q).built ts') (sym due.pends.asks.is) (built_lacks ts T due.this k rest rest_left b cap ts' l)

    module _ (ts' : List Tree) (built : Diagram) (j : Made ts (build k.member b.low_tree b.high_tree) (made k.member b.low_tree b.high_tree) built ts') where
      pub take_grows : Grows ts ts' (ask_at ts x.question)
      take_grows = subst (Grows ts ts') (sym due.pends.asks.is) (built_grows ts T due.this k rest rest_left b ts' built j)

      pub take_right : Right ts' (x.question, built)
      take_right = record {
        this = due.this;
        asks = asks_kept ts ts' j.kept x.question due.this due.pends.asks;
        good = due.pends.good;
        settled = built_settled ts T due.this k rest rest_left b ts' built j;
      }

    -- what is opened for it is told, once it is told itself
    pub take_tells : (T' : Ask → Type 0) → ((r : Ask) → T r → T' r) → T' due.this → (r : Ask) → r ∈ (outcome due.this).asked → T' r
    take_tells T' more here r m =
        ⊎_elim (λ (e : r ≡ due.this). subst T' (sym e) here) (λ (h : T r). more r h) (built_tells ts T due.this k rest rest_left b r m)

    pub take_ends : (ts' : List Tree) (built : Diagram) → Made ts (build k.member b.low_tree b.high_tree) (made k.member b.low_tree b.high_tree) built ts' → (T' : Ask → Type 0) → ((r : Ask) → T r → T' r) → T' due.this
        → Steps ts T ts' T' (ask_at ts x.question) xs xs (suc (ahead x.frame) * span (48 - length xs) + weight xs) (Answering built)
    take_ends ts' built j T' more here =
        subst (λ q. Steps ts T ts' T' q xs xs (suc (ahead x.frame) * span (48 - length xs) + weight xs) (Answering built)) (sym due.pends.asks.is)
        (step_answers ts T ts' T' j.kept more due.this built xs _ (ending_falls (ahead x.frame) (length xs) (weight xs))
        (record { settled = built_settled ts T due.this k rest rest_left b ts' built j; tells = take_tells T' more here }))
