-- Where every place keeps its tree, what was asked stays asked, and what was awaited stays awaited.
use Rattle.std.proofs.Common.{◌≡◌, ℕ, List, length, refl, ◌∙◌}
use Rattle.interning.specs.Places.{Kept}
use Rattle.memos.specs.declared.diagram.Diagram.{Diagram}
use Rattle.memos.specs.declared.diagram.View.{View}
use Rattle.memos.specs.declared.diagram.View.TheVariants.{None, Always, Node as Place}
use Rattle.memos.specs.declared.question.Question.{Question}
use Rattle.memos.specs.declared.question.Question.TheVariants.{Either, Both, Less, Turn, Off, On}
use Rattle.memos.specs.Diagrams.{seen}
use Rattle.families.specs.Questions.{Ask, either, both, less, turn, off, on}
use Rattle.families.specs.Scripts.{Script, builds, ask}
use Rattle.families.specs.Trees.{Tree, none}
use Rattle.diagrams.specs.declared.frames.Frame.{Frame}
use Rattle.diagrams.specs.declared.frames.Frame.TheVariants.{EitherLow, Both as InBoth, Less as InLess, Turn as InTurn, Low, Highs, High}
use Rattle.diagrams.specs.declared.frames.BothFrame.TheVariants.{Low as BothLow, HighHigh as BothHighHigh, HighLow as BothHighLow, Join as BothJoin, LowHigh as BothLowHigh}
use Rattle.diagrams.specs.declared.frames.LessFrame.TheVariants.{Low as LessLow, High as LessHigh}
use Rattle.diagrams.specs.declared.frames.TurnFrame.TheVariants.{Low as TurnLow, High as TurnHigh, Both as TurnBoth}
use Rattle.diagrams.specs.declared.frames.Halves.{Halves}
use Rattle.diagrams.specs.NodeKeys.{Below, tree_of, tree_at}
use Rattle.diagrams.specs.Building.{Denotes}
use Rattle.diagrams.specs.Asking.{Asks, OperandsHeld, ask_at}
use Rattle.diagrams.specs.Frames.{Awaits, HalvesHeld, FrameHeld, continuation}
use Rattle.diagrams.proofs.NodeTrees.{below_rise}

module _ (ts ts' : List Tree) (kept : Kept ts ts') where
  view_kept : (v : View) → Below (length ts) v → tree_of ts' v ≡ tree_of ts v
  view_kept None b = refl
  view_kept Always b = refl
  view_kept (Place p) b = kept.same p none b

  pub held_kept : (d : Diagram) → Below (length ts) (seen d) → Below (length ts') (seen d)
  held_kept d = below_rise (length ts) (length ts') (seen d) kept.longer

  pub tree_kept : (d : Diagram) → Below (length ts) (seen d) → tree_at ts' d ≡ tree_at ts d
  tree_kept d = view_kept (seen d)

  pub denotes_kept : (d : Diagram) (t : Tree) → Denotes ts d t → Denotes ts' d t
  denotes_kept d t den = record { within = held_kept d den.within; is = tree_kept d den.within ∙ den.is }

  operands_kept : (q : Question) → OperandsHeld ts q → OperandsHeld ts' q
  operands_kept (Either f g) b = (held_kept f b.0, held_kept g b.1)
  operands_kept (Both f g) b = (held_kept f b.0, held_kept g b.1)
  operands_kept (Less f g) b = (held_kept f b.0, held_kept g b.1)
  operands_kept (Turn f) b = held_kept f b
  operands_kept (Off f u) b = held_kept f b
  operands_kept (On f u) b = held_kept f b

  ask_kept : (q : Question) → OperandsHeld ts q → ask_at ts' q ≡ ask_at ts q
  ask_kept (Either f g) b i = either (tree_kept f b.0 i) (tree_kept g b.1 i)
  ask_kept (Both f g) b i = both (tree_kept f b.0 i) (tree_kept g b.1 i)
  ask_kept (Less f g) b i = less (tree_kept f b.0 i) (tree_kept g b.1 i)
  ask_kept (Turn f) b i = turn (tree_kept f b i)
  ask_kept (Off f u) b i = off (tree_kept f b i) u
  ask_kept (On f u) b i = on (tree_kept f b i) u

  pub asks_kept : (question : Question) (q : Ask) → Asks ts question q → Asks ts' question q
  asks_kept question q asks = record { held = operands_kept question asks.held; is = ask_kept question asks.held ∙ asks.is }

  halves_kept : (p : Halves) → HalvesHeld ts p → HalvesHeld ts' p
  halves_kept p b = (held_kept p.f0 b.0, held_kept p.f1 b.1, held_kept p.g0 b.2, held_kept p.g1 b.3)

  frame_kept : (frame : Frame) → FrameHeld ts frame → FrameHeld ts' frame
  frame_kept (EitherLow v f1 g1) b = (held_kept f1 b.0, held_kept g1 b.1)
  frame_kept (InBoth (BothLow p)) b = halves_kept p b
  frame_kept (InBoth (BothHighHigh p low)) b = (halves_kept p b.0, held_kept low b.1)
  frame_kept (InBoth (BothHighLow p low first)) b = (halves_kept p b.0, held_kept low b.1, held_kept first b.2)
  frame_kept (InBoth (BothJoin p low)) b = (halves_kept p b.0, held_kept low b.1)
  frame_kept (InBoth (BothLowHigh v low first)) b = (held_kept low b.0, held_kept first b.1)
  frame_kept (InLess (LessLow v f1 g0 g1)) b = (held_kept f1 b.0, held_kept g0 b.1, held_kept g1 b.2)
  frame_kept (InLess (LessHigh v low g0)) b = (held_kept low b.0, held_kept g0 b.1)
  frame_kept (InTurn (TurnLow v f1)) b = held_kept f1 b
  frame_kept (InTurn (TurnHigh v turned)) b = held_kept turned b
  frame_kept (InTurn (TurnBoth v turned)) b = held_kept turned b
  frame_kept (Low v high) b = operands_kept high b
  frame_kept (Highs v low) b = held_kept low b
  frame_kept (High v low) b = held_kept low b

  -- the end of the scripts that take from all groups with the member
  from_highs : (v : ℕ) (low : Diagram) → Below (length ts) (seen low) → (x : Tree) → continuation ts' (Highs v low) x ≡ continuation ts (Highs v low) x
  from_highs v low b x i = ask (less x (tree_kept low b i)) (λ h. builds v (tree_kept low b i) h)

  continuation_kept : (frame : Frame) → FrameHeld ts frame → (t : Tree) → continuation ts' frame t ≡ continuation ts frame t
  continuation_kept (EitherLow v f1 g1) b l i = ask (either (tree_kept f1 b.0 i) (tree_kept g1 b.1 i)) (λ y. ask (less y l) (λ h. builds v l h))
  continuation_kept (InBoth (BothLow p)) b l i =
      ask (both (tree_kept p.f1 b.1 i) (tree_kept p.g1 b.3 i)) (λ x.
      ask (both (tree_kept p.f1 b.1 i) (tree_kept p.g0 b.2 i)) (λ y.
      ask (either x y) (λ r.
      ask (both (tree_kept p.f0 b.0 i) (tree_kept p.g1 b.3 i)) (λ s.
      ask (either r s) (λ z. ask (less z l) (λ h. builds p.member l h))))))
  continuation_kept (InBoth (BothHighHigh p low)) b x i =
      ask (both (tree_kept p.f1 b.0.1 i) (tree_kept p.g0 b.0.2 i)) (λ y.
      ask (either x y) (λ r.
      ask (both (tree_kept p.f0 b.0.0 i) (tree_kept p.g1 b.0.3 i)) (λ s. ask (either r s) (λ z. from_highs p.member low b.1 z i))))
  continuation_kept (InBoth (BothHighLow p low first)) b q i =
      ask (either (tree_kept first b.2 i) q) (λ r.
      ask (both (tree_kept p.f0 b.0.0 i) (tree_kept p.g1 b.0.3 i)) (λ s. ask (either r s) (λ x. from_highs p.member low b.1 x i)))
  continuation_kept (InBoth (BothJoin p low)) b r i =
      ask (both (tree_kept p.f0 b.0.0 i) (tree_kept p.g1 b.0.3 i)) (λ s. ask (either r s) (λ x. from_highs p.member low b.1 x i))
  continuation_kept (InBoth (BothLowHigh v low first)) b s i = ask (either (tree_kept first b.1 i) s) (λ x. from_highs v low b.0 x i)
  continuation_kept (InLess (LessLow v f1 g0 g1)) b l i = ask (less (tree_kept f1 b.0 i) (tree_kept g1 b.2 i)) (λ x. ask (less x (tree_kept g0 b.1 i)) (λ h. builds v l h))
  continuation_kept (InLess (LessHigh v low g0)) b x i = ask (less x (tree_kept g0 b.1 i)) (λ h. builds v (tree_kept low b.0 i) h)
  continuation_kept (InTurn (TurnLow v f1)) b a i = ask (turn (tree_kept f1 b i)) (λ c. ask (both a c) (λ l. ask (less a l) (λ h. builds v l h)))
  continuation_kept (InTurn (TurnHigh v turned)) b c i = ask (both (tree_kept turned b i) c) (λ l. ask (less (tree_kept turned b i) l) (λ h. builds v l h))
  continuation_kept (InTurn (TurnBoth v turned)) b l i = ask (less (tree_kept turned b i) l) (λ h. builds v l h)
  continuation_kept (Low v high) b l i = ask (ask_kept high b i) (λ h. builds v l h)
  continuation_kept (Highs v low) b x i = from_highs v low b x i
  continuation_kept (High v low) b h i = builds v (tree_kept low b i) h

  pub awaits_kept : (frame : Frame) (k : Tree → Script) → Awaits ts frame k → Awaits ts' frame k
  awaits_kept frame k awaits = record { held = frame_kept frame awaits.held; runs = λ t. continuation_kept frame awaits.held t ∙ awaits.runs t }
