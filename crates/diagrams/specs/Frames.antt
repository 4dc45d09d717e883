-- Open questions, and what they still do.
use Rattle.std.specs.Prelude.{◌≡◌, ℕ, ◌<◌, List, length}
use Rattle.families.specs.Questions.{Ask, either, both, less, turn, low_at, high_at, smaller}
use Rattle.families.specs.Scripts.{Script, builds, ask}
use Rattle.families.specs.Trees.{Tree}
use Rattle.memos.specs.declared.diagram.Diagram.{Diagram}
use Rattle.memos.specs.declared.question.Question.{Question}
use Rattle.memos.specs.Diagrams.{seen}
use Rattle.diagrams.specs.declared.frames.Frame.{Frame}
use Rattle.diagrams.specs.declared.frames.Frame.TheVariants.{EitherLow, Both as InBoth, Less as InLess, Turn as InTurn, Low, Highs, High}
use Rattle.diagrams.specs.declared.frames.BothFrame.TheVariants.{Low as BothLow, HighHigh as BothHighHigh, HighLow as BothHighLow, Join as BothJoin, LowHigh as BothLowHigh}
use Rattle.diagrams.specs.declared.frames.LessFrame.TheVariants.{Low as LessLow, High as LessHigh}
use Rattle.diagrams.specs.declared.frames.TurnFrame.TheVariants.{Low as TurnLow, High as TurnHigh, Both as TurnBoth}
use Rattle.diagrams.specs.declared.frames.Halves.{Halves}
use Rattle.diagrams.specs.declared.frames.Next.{Next}
use Rattle.diagrams.specs.declared.frames.Next.TheVariants.{Wait as Waiting, Done}
use Rattle.diagrams.specs.declared.frames.Wait.{Wait}
use Rattle.diagrams.specs.declared.node.Node.{Node}
use Rattle.diagrams.specs.Asking.{Asks, OperandsHeld, ask_at}
use Rattle.diagrams.specs.Building.{Denotes}
use Rattle.diagrams.specs.NodeKeys.{Below, tree_at}

-- the diagram is held
abbrev Held : List Tree → Diagram → Type 0
Held ts d = Below (length ts) (seen d)

-- the parts of two operands are held
abbrev pub HalvesHeld : List Tree → Halves → Type 0
HalvesHeld ts p = Held ts p.f0 × Held ts p.f1 × Held ts p.g0 × Held ts p.g1

-- every diagram of the frame is held
abbrev pub FrameHeld : List Tree → Frame → Type 0
FrameHeld ts (EitherLow v f1 g1) = Held ts f1 × Held ts g1
FrameHeld ts (InBoth (BothLow p)) = HalvesHeld ts p
FrameHeld ts (InBoth (BothHighHigh p low)) = HalvesHeld ts p × Held ts low
FrameHeld ts (InBoth (BothHighLow p low first)) = HalvesHeld ts p × Held ts low × Held ts first
FrameHeld ts (InBoth (BothJoin p low)) = HalvesHeld ts p × Held ts low
FrameHeld ts (InBoth (BothLowHigh v low first)) = Held ts low × Held ts first
FrameHeld ts (InLess (LessLow v f1 g0 g1)) = Held ts f1 × Held ts g0 × Held ts g1
FrameHeld ts (InLess (LessHigh v low g0)) = Held ts low × Held ts g0
FrameHeld ts (InTurn (TurnLow v f1)) = Held ts f1
FrameHeld ts (InTurn (TurnHigh v turned)) = Held ts turned
FrameHeld ts (InTurn (TurnBoth v turned)) = Held ts turned
FrameHeld ts (Low v high) = OperandsHeld ts high
FrameHeld ts (Highs v low) = Held ts low
FrameHeld ts (High v low) = Held ts low

-- what the frame does with an answer
abbrev pub continuation : List Tree → Frame → Tree → Script
continuation ts (EitherLow v f1 g1) l =
    ask (either (tree_at ts f1) (tree_at ts g1)) λ y.
    ask (less y l) λ h.
    builds v l h
continuation ts (InBoth (BothLow p)) l =
    ask (both (tree_at ts p.f1) (tree_at ts p.g1)) λ x.
    ask (both (tree_at ts p.f1) (tree_at ts p.g0)) λ y.
    ask (either x y) λ r.
    ask (both (tree_at ts p.f0) (tree_at ts p.g1)) λ s.
    ask (either r s) λ z.
    ask (less z l) λ h.
    builds p.member l h
continuation ts (InBoth (BothHighHigh p low)) x =
    ask (both (tree_at ts p.f1) (tree_at ts p.g0)) λ y.
    ask (either x y) λ r.
    ask (both (tree_at ts p.f0) (tree_at ts p.g1)) λ s.
    ask (either r s) λ z.
    ask (less z (tree_at ts low)) λ h.
    builds p.member (tree_at ts low) h
continuation ts (InBoth (BothHighLow p low first)) q =
    ask (either (tree_at ts first) q) λ r.
    ask (both (tree_at ts p.f0) (tree_at ts p.g1)) λ s.
    ask (either r s) λ x.
    ask (less x (tree_at ts low)) λ h.
    builds p.member (tree_at ts low) h
continuation ts (InBoth (BothJoin p low)) r =
    ask (both (tree_at ts p.f0) (tree_at ts p.g1)) λ s.
    ask (either r s) λ x.
    ask (less x (tree_at ts low)) λ h.
    builds p.member (tree_at ts low) h
continuation ts (InBoth (BothLowHigh v low first)) s =
    ask (either (tree_at ts first) s) λ x.
    ask (less x (tree_at ts low)) λ h.
    builds v (tree_at ts low) h
continuation ts (InLess (LessLow v f1 g0 g1)) l =
    ask (less (tree_at ts f1) (tree_at ts g1)) λ x.
    ask (less x (tree_at ts g0)) λ h.
    builds v l h
continuation ts (InLess (LessHigh v low g0)) x =
    ask (less x (tree_at ts g0)) λ h.
    builds v (tree_at ts low) h
continuation ts (InTurn (TurnLow v f1)) a =
    ask (turn (tree_at ts f1)) λ b.
    ask (both a b) λ l.
    ask (less a l) λ h.
    builds v l h
continuation ts (InTurn (TurnHigh v turned)) b =
    ask (both (tree_at ts turned) b) λ l.
    ask (less (tree_at ts turned) l) λ h.
    builds v l h
continuation ts (InTurn (TurnBoth v turned)) l =
    ask (less (tree_at ts turned) l) λ h.
    builds v l h
continuation ts (Low v high) l =
    ask (ask_at ts high) λ h.
    builds v l h
continuation ts (Highs v low) x =
    ask (less x (tree_at ts low)) λ h.
    builds v (tree_at ts low) h
continuation ts (High v low) h = builds v (tree_at ts low) h

-- how many further answers the frame waits for, after the one that is due
abbrev pub ahead : Frame → ℕ
ahead (EitherLow v f1 g1) = 2
ahead (InBoth (BothLow p)) = 6
ahead (InBoth (BothHighHigh p low)) = 5
ahead (InBoth (BothHighLow p low first)) = 4
ahead (InBoth (BothJoin p low)) = 3
ahead (InBoth (BothLowHigh v low first)) = 2
ahead (InLess (LessLow v f1 g0 g1)) = 2
ahead (InLess (LessHigh v low g0)) = 1
ahead (InTurn (TurnLow v f1)) = 3
ahead (InTurn (TurnHigh v turned)) = 2
ahead (InTurn (TurnBoth v turned)) = 1
ahead (Low v high) = 1
ahead (Highs v low) = 1
ahead (High v low) = 0

-- every diagram of the frame is held, and with an answer it goes on as k does
pub record Awaits (ts : List Tree) (frame : Frame) (k : Tree → Script) : Type 0 where
  pub held : FrameHeld ts frame
  pub runs : (t : Tree) → continuation ts frame t ≡ k t

-- the frame waits for the next question of the script
pub record Waits (ts : List Tree) (w : Wait) (s : Script) : Type 0 where
  pub next : Ask
  pub then : Tree → Script
  pub is : s ≡ ask next then
  pub asks : Asks ts w.question next
  pub awaits : Awaits ts w.frame then

-- what is to be built
pub record Builds (ts : List Tree) (k : Node) (s : Script) : Type 0 where
  pub low_tree : Tree
  pub high_tree : Tree
  pub is : s ≡ builds k.member low_tree high_tree
  pub low_is : Denotes ts k.low low_tree
  pub high_is : Denotes ts k.high high_tree

-- what comes next is the next of the script
abbrev pub Continues : List Tree → Next → Script → Type 0
Continues ts (Waiting w) s = Waits ts w s
Continues ts (Done k) s = Builds ts k s

-- the question that is made of a diagram asks q of its tree
abbrev pub AsksAs : List Tree → (Diagram → Question → Type 0) → (Tree → Ask) → Type 0
AsksAs ts makes q = (d : Diagram) (question : Question) → makes d question → (t : Tree) → Denotes ts d t → Asks ts question (q t)

-- the parts of two operands at the smaller of their top members
pub record Halved (ts : List Tree) (r : Halves) (s t : Tree) : Type 0 where
  pub at : r.member ≡ smaller s t
  pub f_low : Denotes ts r.f0 (low_at r.member s)
  pub f_high : Denotes ts r.f1 (high_at r.member s)
  pub g_low : Denotes ts r.g0 (low_at r.member t)
  pub g_high : Denotes ts r.g1 (high_at r.member t)

-- what comes next waits for fewer than n further answers
abbrev pub Fewer : Next → ℕ → Type 0
Fewer (Waiting w) n = ahead w.frame < n
Fewer (Done k) n = Unit {0}
