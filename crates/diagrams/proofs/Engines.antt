-- What an engine needs of its operands, and that its notes stay right.
use Rattle.std.proofs.Common.{◌≡◌, List, [], Ok, Err, Result, sym, subst}
use mathlib.Core.Logic.{∥∥₁_map}
use Rattle.interning.specs.declared.interner.Full.{Full}
use Rattle.interning.specs.Distinct.{◌∈◌}
use Rattle.interning.specs.Places.{Kept}
use Rattle.interning.proofs.Places.{kept_same}
use Rattle.memos.specs.declared.diagram.Diagram.{Diagram}
use Rattle.memos.specs.declared.question.Question.{Question}
use Rattle.memos.specs.declared.question.Question.TheVariants.{Either, Both, Less, Turn, Off, On}
use Rattle.memos.specs.Notes.{Note}
use Rattle.families.specs.Trees.{Tree}
use Rattle.families.specs.Meanings.{GoodAsk}
use Rattle.diagrams.specs.declared.nodes.NodeMemory.{NodeMemory}
use Rattle.diagrams.specs.Asking.{OperandsHeld, ask_at}
use Rattle.diagrams.specs.Building.{Makes}
use Rattle.diagrams.specs.Memory.{trees}
use Rattle.diagrams.specs.Solving.{AllRight, Closed}
use Rattle.diagrams.proofs.Memories.{denotes_good}
use Rattle.diagrams.proofs.Merely.{right_out}
use Rattle.diagrams.proofs.Settling.{all_kept}
use Rattle.diagrams.proofs.Sighted.{held_denotes}
use Rattle.diagrams.proofs.Tallying.{closed_kept, closed_none}

-- a question on diagrams of the memory is a good one
pub operands_good : (m : NodeMemory) (question : Question) → OperandsHeld (trees m) question → GoodAsk 1 (ask_at (trees m) question)
operands_good m (Either f g) h = (denotes_good m f _ (held_denotes (trees m) f h.0), denotes_good m g _ (held_denotes (trees m) g h.1))
operands_good m (Both f g) h = (denotes_good m f _ (held_denotes (trees m) f h.0), denotes_good m g _ (held_denotes (trees m) g h.1))
operands_good m (Less f g) h = (denotes_good m f _ (held_denotes (trees m) f h.0), denotes_good m g _ (held_denotes (trees m) g h.1))
operands_good m (Turn f) h = denotes_good m f _ (held_denotes (trees m) f h)
operands_good m (Off f u) h = denotes_good m f _ (held_denotes (trees m) f h)
operands_good m (On f u) h = denotes_good m f _ (held_denotes (trees m) f h)

-- making a tree keeps every place
pub makes_kept : (cap : _) (ts : List Tree) (t : Tree) (us : List Tree) (r : Result Diagram Full) (ts' : List Tree) → Makes cap ts t us r ts' → Kept ts ts'
makes_kept cap ts t us (Ok d) ts' made = made.kept
makes_kept cap ts t us (Err e) ts' lacks = subst (Kept ts) (sym lacks.same) (kept_same ts)

-- notes that are right stay right where every place is kept, and closed ones closed
module _ {ts ts' : List Tree} (kept : Kept ts ts') (ns : List Note) (right : ∥ AllRight ts ns ∥₁) where
  pub right_stays : ∥ AllRight ts' ns ∥₁
  right_stays = ∥∥₁_map right (all_kept ts ts' kept ns)

  pub closed_stays : {keeps : Type 0} → ∥ (keeps → Closed ts ns) ∥₁ → ∥ (keeps → Closed ts' ns) ∥₁
  closed_stays closed = ∥∥₁_map closed (λ c k. closed_kept ts ts' kept ns (right_out ts ns right) (c k))

-- no note is wrong
pub right_none : (ts : List Tree) (ns : List Note) → ns ≡ [] → ∥ AllRight ts ns ∥₁
right_none ts ns none = ∣ (λ n m. absurd (subst (λ xs. n ∈ xs) none m)) ∣₁

pub closed_empty : (ts : List Tree) (ns : List Note) {keeps : Type 0} → ns ≡ [] → ∥ (keeps → Closed ts ns) ∥₁
closed_empty ts ns none = ∣ (λ k. subst (Closed ts) (sym none) (closed_none ts)) ∣₁
