-- A question that is opened: its script is what its first frame waits for, and what that goes on to do.
use Rattle.std.proofs.Common.{◌≡◌, ℕ, List, sym, refl, ap, ◌∙◌, subst}
use Rattle.memos.specs.declared.diagram.Diagram.{Diagram}
use Rattle.memos.specs.declared.question.Question.{Question}
use Rattle.memos.specs.declared.question.Question.TheVariants.{Either, Both, Less, Turn, Off, On}
use Rattle.families.specs.Trees.{Tree}
use Rattle.families.specs.Questions.{Ask, either, both, less, turn, off, on, low_at, high_at, top}
use Rattle.families.specs.Scripts.{Script, script, builds, ask}
use Rattle.diagrams.specs.declared.frames.Frame.{Frame}
use Rattle.diagrams.specs.declared.frames.Frame.TheVariants.{EitherLow, Both as InBoth, Less as InLess, Turn as InTurn, Low}
use Rattle.diagrams.specs.declared.frames.BothFrame.TheVariants.{Low as BothLow}
use Rattle.diagrams.specs.declared.frames.LessFrame.TheVariants.{Low as LessLow}
use Rattle.diagrams.specs.declared.frames.TurnFrame.TheVariants.{Low as TurnLow}
use Rattle.diagrams.specs.declared.frames.Halves.{Halves}
use Rattle.diagrams.specs.declared.frames.Wait.{Wait}
use Rattle.diagrams.specs.NodeKeys.{tree_at}
use Rattle.diagrams.specs.Building.{Denotes}
use Rattle.diagrams.specs.Asking.{Asks, OperandsHeld, ask_at}
use Rattle.diagrams.specs.Frames.{Awaits, FrameHeld, Halved, Waits, continuation}

-- a frame that waits for a script, to the letter
waits_on : (ts : List Tree) (w : Wait) (s : Script) → s ≡ ask (ask_at ts w.question) (continuation ts w.frame) → OperandsHeld ts w.question → FrameHeld ts w.frame → Waits ts w s
waits_on ts w s e operands frames = record {
  next = ask_at ts w.question;
  then = continuation ts w.frame;
  is = e;
  asks = record { held = operands; is = refl };
  awaits = record { held = frames; runs = λ t. refl };
}

-- a frame that goes on to the letter
pub resumes : (ts : List Tree) (frame : Frame) (answer : Diagram) (k : Tree → Script) (t : Tree) (w : Wait) → Awaits ts frame k → Denotes ts answer t → continuation ts frame (tree_at ts answer) ≡ ask (ask_at ts w.question) (continuation ts w.frame) → OperandsHeld ts w.question → FrameHeld ts w.frame → Waits ts w (k t)
resumes ts frame answer k t w awaits den e = waits_on ts w (k t) (ap k (sym den.is) ∙ sym (awaits.runs (tree_at ts answer)) ∙ e)

module _ (ts : List Tree) (r : Halves) (s t : Tree) (halved : Halved ts r s t) where
  -- a script over the parts of two operands is one over their trees
  over_halves : (body : ℕ → Tree → Tree → Tree → Tree → Script) (v : ℕ) → r.member ≡ v → body v (low_at v s) (high_at v s) (low_at v t) (high_at v t) ≡ body r.member (tree_at ts r.f0) (tree_at ts r.f1) (tree_at ts r.g0) (tree_at ts r.g1)
  over_halves body v e =
      ap (λ u. body u (low_at u s) (high_at u s) (low_at u t) (high_at u t)) (sym e)
      ∙ sym (λ i. body r.member (halved.f_low.is i) (halved.f_high.is i) (halved.g_low.is i) (halved.g_high.is i))

  pub begins_either : Waits ts (record { frame = EitherLow r.member r.f1 r.g1; question = Either r.f0 r.g0 }) (script (either s t))
  unfolding script
  begins_either = waits_on ts _ _
      (over_halves (λ v f0 f1 g0 g1. ask (either f0 g0) (λ l. ask (either f1 g1) (λ y. ask (less y l) (λ h. builds v l h)))) _ halved.at)
      (halved.f_low.within, halved.g_low.within)
      (halved.f_high.within, halved.g_high.within)

  pub begins_both : Waits ts (record { frame = InBoth (BothLow r); question = Both r.f0 r.g0 }) (script (both s t))
  unfolding script
  begins_both = waits_on ts _ _
      (over_halves (λ v f0 f1 g0 g1.
      ask (both f0 g0) (λ l. ask (both f1 g1) (λ p. ask (both f1 g0) (λ q. ask (either p q) (λ x. ask (both f0 g1) (λ y. ask (either x y) (λ z. ask (less z l) (λ h. builds v l h)))))))) _ halved.at)
      (halved.f_low.within, halved.g_low.within)
      (halved.f_low.within, halved.f_high.within, halved.g_low.within, halved.g_high.within)

  pub begins_less : Waits ts (record { frame = InLess (LessLow r.member r.f1 r.g0 r.g1); question = Less r.f0 r.g0 }) (script (less s t))
  unfolding script
  begins_less = waits_on ts _ _
      (over_halves (λ v f0 f1 g0 g1. ask (less f0 g0) (λ l. ask (less f1 g1) (λ x. ask (less x g0) (λ h. builds v l h)))) _ halved.at)
      (halved.f_low.within, halved.g_low.within)
      (halved.f_high.within, halved.g_low.within, halved.g_high.within)

module _ (ts : List Tree) (v : ℕ) (f0 f1 : Diagram) (t : Tree) (at : v ≡ top t) (low : Denotes ts f0 (low_at v t)) (high : Denotes ts f1 (high_at v t)) where
  -- and so for one operand
  over_parts : (body : ℕ → Tree → Tree → Script) → body (top t) (low_at (top t) t) (high_at (top t) t) ≡ body v (tree_at ts f0) (tree_at ts f1)
  over_parts body = ap (λ u. body u (low_at u t) (high_at u t)) (sym at) ∙ sym (λ i. body v (low.is i) (high.is i))

  pub begins_turn : Waits ts (record { frame = InTurn (TurnLow v f1); question = Turn f0 }) (script (turn t))
  unfolding script
  begins_turn = waits_on ts _ _ (over_parts (λ w a b. ask (turn a) (λ x. ask (turn b) (λ y. ask (both x y) (λ l. ask (less x l) (λ h. builds w l h)))))) low.within high.within

  pub begins_parts : (q : Tree → Ask) (first next : Question) → Asks ts first (q (low_at v t)) → Asks ts next (q (high_at v t))
      → Waits ts (record { frame = Low v next; question = first }) (ask (q (low_at (top t) t)) (λ l. ask (q (high_at (top t) t)) (λ h. builds (top t) l h)))
  begins_parts q first next x y = waits_on ts _ _ (ap (λ u. ask (q (low_at u t)) (λ l. ask (q (high_at u t)) (λ h. builds u l h))) (sym at) ∙ sym (λ i. ask (x.is i) (λ l. ask (y.is i) (λ h. builds v l h)))) x.held y.held

-- a question on a member, u, of one operand
module _ (ts : List Tree) (f : Diagram) (u : ℕ) where
  pub off_asked : (question : Question) → question ≡ Off f u → (t : Tree) → Denotes ts f t → Asks ts question (off t u)
  off_asked question e t x = subst (λ z. Asks ts z (off t u)) (sym e) (record { held = x.within; is = λ i. off (x.is i) u })

  pub on_asked : (question : Question) → question ≡ On f u → (t : Tree) → Denotes ts f t → Asks ts question (on t u)
  on_asked question e t x = subst (λ z. Asks ts z (on t u)) (sym e) (record { held = x.within; is = λ i. on (x.is i) u })

  pub off_begins : (w : Wait) (q : Ask) → Asks ts (Off f u) q → ((t : Tree) → Denotes ts f t → Waits ts w (ask (off (low_at (top t) t) u) (λ l. ask (off (high_at (top t) t) u) (λ h. builds (top t) l h)))) → Waits ts w (script q)
  unfolding script
  off_begins w q a waits = subst (λ z. Waits ts w (script z)) a.is (waits (tree_at ts f) (record { within = a.held; is = refl }))

  pub on_begins : (w : Wait) (q : Ask) → Asks ts (On f u) q → ((t : Tree) → Denotes ts f t → Waits ts w (ask (on (low_at (top t) t) u) (λ l. ask (on (high_at (top t) t) u) (λ h. builds (top t) l h)))) → Waits ts w (script q)
  unfolding script
  on_begins w q a waits = subst (λ z. Waits ts w (script z)) a.is (waits (tree_at ts f) (record { within = a.held; is = refl }))
