-- An open question is answered, and its answer is noted.
use Rattle.std.proofs.Common.{ℕ, suc, ◌+◌, ◌-◌, ◌*◌, List, ◌∷◌, length, refl, subst}
use Rattle.interning.specs.Distinct.{◌∈◌}
use Rattle.memos.specs.declared.diagram.Diagram.{Diagram}
use Rattle.memos.specs.Notes.{Note, Noted}
use Rattle.families.specs.Trees.{Tree, build}
use Rattle.families.specs.Questions.{Ask}
use Rattle.families.specs.Outcomes.{made, outcome, answer}
use Rattle.diagrams.specs.declared.node.Node.{Node}
use Rattle.diagrams.specs.declared.solve.Step.TheVariants.{Answer as Answering}
use Rattle.diagrams.specs.declared.solve.Pending.{Pending}
use Rattle.diagrams.specs.Asking.{ask_at}
use Rattle.diagrams.specs.Frames.{Builds, ahead}
use Rattle.diagrams.specs.Building.{Made}
use Rattle.diagrams.specs.Solving.{AllRight, Closed, Chain, CountsOn, Due, HasNote, Steps, span, told, weight}
use Rattle.diagrams.proofs.Stepping.{all_noted}
use Rattle.diagrams.proofs.Taking.{take_ends, take_right, take_tells}
use Rattle.diagrams.proofs.Tallying.{noted_closed, noted_here, noted_still, tally_ends}

module _ (keeps keeps' : Type 0) (ts : List Tree) (ns : List Note) (xs : List Pending) (x : Pending) (d : Diagram) (due : Due ts (told keeps ts ns) (length xs) x d)
    (node : Node) (b : Builds ts node (due.pends.then (answer due.next))) (ts' : List Tree) (built : Diagram)
    (j : Made ts (build node.member b.low_tree b.high_tree) (made node.member b.low_tree b.high_tree) built ts') (ns' : List Note) (all : AllRight ts ns) (noted : Noted keeps keeps' ns ns' x.question built) where
  pub ends_notes : AllRight ts' ns'
  ends_notes = all_noted ts ts' ns ns' x.question built j.kept all (take_right ts (told keeps ts ns) xs x d due node b ts' built j) noted

  more : (r : Ask) → told keeps ts ns r → told keeps' ts' ns' r
  more r h k = noted_still keeps keeps' ts ts' j.kept ns ns' all x.question due.this built due.pends.asks noted k r (h (noted.already k))

  here : told keeps' ts' ns' due.this
  here k = noted_here keeps keeps' ts ts' j.kept ns ns' all x.question due.this built due.pends.asks noted k

  tells : keeps' → (r : Ask) → r ∈ (outcome due.this).asked → HasNote ts' ns' r
  tells k r m = take_tells ts (told keeps ts ns) xs x d due node b (told keeps' ts' ns') more here r m k

  pub ends_closed : (keeps → Closed ts ns) → keeps' → Closed ts' ns'
  ends_closed closed k = noted_closed keeps keeps' ts ts' j.kept ns ns' all x.question due.this built due.pends.asks noted k (tells k) (closed (noted.already k))

  pub ends_counts : (n : ℕ) → CountsOn keeps keeps' ts ns ts' ns' (ask_at ts x.question) xs (x ∷ xs) xs n n
  ends_counts n k us ms final c t =
      tally_ends keeps keeps' ts ts' j.kept ns ns' all x.question due.this built due.pends.asks noted k us ms (told keeps ts ns) final x xs n refl (tells k)
      (subst (λ p. Chain ts (told keeps ts ns) final xs p) due.pends.asks.is c) t

  pub ends_steps : Steps ts (told keeps ts ns) ts' (told keeps' ts' ns') (ask_at ts x.question) xs xs (suc (ahead x.frame) * span (48 - length xs) + weight xs) (Answering built)
  ends_steps = take_ends ts (told keeps ts ns) xs x d due node b ts' built j (told keeps' ts' ns') more here
