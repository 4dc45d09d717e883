-- The steps of the work: a question is answered at once, is opened, asks on, or is answered.
use Rattle.std.proofs.Common.{◌≡◌, ℕ, suc, ◌+◌, ◌-◌, ◌*◌, ◌<◌, ◌≤◌, ◌⊎◌, List, [], ◌∷◌, length, sym, ◌∙◌, subst, ⊎_elim, arith}
use Rattle.interning.specs.Distinct.{◌∈◌, Within}
use Rattle.interning.specs.Places.{Kept}
use Rattle.interning.proofs.Members.{in_left}
use Rattle.interning.proofs.Places.{kept_same}
use Rattle.memos.specs.declared.diagram.Diagram.{Diagram}
use Rattle.memos.specs.declared.question.Question.{Question}
use Rattle.memos.specs.Notes.{Note, Noted}
use Rattle.families.specs.Trees.{Tree, build}
use Rattle.families.specs.Good.{Good}
use Rattle.families.specs.Questions.{Ask, sight, opens, split_at}
use Rattle.families.specs.Scripts.{Script, builds, script}
use Rattle.families.specs.Outcomes.{made, outcome}
use Rattle.families.specs.Meanings.{GoodAsk}
use Rattle.families.proofs.Solving.{good_ask_member}
use Rattle.diagrams.specs.declared.frames.Frame.{Frame}
use Rattle.diagrams.specs.declared.frames.Frame.TheVariants.{EitherLow, Both as InBoth, Less as InLess, Turn as InTurn, Low, Highs, High}
use Rattle.diagrams.specs.declared.frames.BothFrame.TheVariants.{Low as BothLow, HighHigh as BothHighHigh, HighLow as BothHighLow, Join as BothJoin, LowHigh as BothLowHigh}
use Rattle.diagrams.specs.declared.frames.LessFrame.TheVariants.{Low as LessLow, High as LessHigh}
use Rattle.diagrams.specs.declared.frames.TurnFrame.TheVariants.{Low as TurnLow, High as TurnHigh, Both as TurnBoth}
use Rattle.diagrams.specs.declared.frames.Wait.{Wait}
use Rattle.diagrams.specs.declared.node.Node.{Node}
use Rattle.diagrams.specs.declared.solve.Step.TheVariants.{Ask as Asking, Answer as Answering}
use Rattle.diagrams.specs.declared.solve.Pending.{Pending}
use Rattle.diagrams.specs.Asking.{Asks, ask_at}
use Rattle.diagrams.specs.Building.{Denotes, Fitting, Lacks, Made}
use Rattle.diagrams.specs.Frames.{Waits, Builds, ahead}
use Rattle.diagrams.specs.Solving.{Settled, Right, AllRight, Grows, Arrives, Left, Pends, Chain, Puttable, Steps, span, weight}
use Rattle.diagrams.proofs.Built.{build_is}
use Rattle.diagrams.proofs.Settling.{within_joined, within_right, kept_within, right_kept, chain_kept}
use Rattle.diagrams.proofs.Scripted.{split_below, left_begins, left_inside, left_part, built_good, built_answer, built_cover, built_others, built_part}
use Rattle.diagrams.proofs.Measured.{asking_falls, answering_falls}

-- no frame has more than six questions ahead
ahead_few : (f : Frame) → ahead f ≤ 6
ahead_few (EitherLow v f1 g1) = omega arith
ahead_few (InBoth (BothLow p)) = omega arith
ahead_few (InBoth (BothHighHigh p low)) = omega arith
ahead_few (InBoth (BothHighLow p low first)) = omega arith
ahead_few (InBoth (BothJoin p low)) = omega arith
ahead_few (InBoth (BothLowHigh v low first)) = omega arith
ahead_few (InLess (LessLow v f1 g0 g1)) = omega arith
ahead_few (InLess (LessHigh v low g0)) = omega arith
ahead_few (InTurn (TurnLow v f1)) = omega arith
ahead_few (InTurn (TurnHigh v turned)) = omega arith
ahead_few (InTurn (TurnBoth v turned)) = omega arith
ahead_few (Low v high) = omega arith
ahead_few (Highs v low) = omega arith
ahead_few (High v low) = omega arith

-- the stack has a place for a question that is opened
pub put_deep : (ts : List Tree) (question : Question) (n : ℕ) (a : Puttable ts n question) → sight a.this ≡ opens → (n < split_at a.this) × (n < 48)
put_deep ts question n a unseen = let s = split_below a.from a.this a.good unseen in let d = a.deep in (omega arith, omega arith)

-- all that an open question builds and opens is built and opened for the oldest one
module _ (ts : List Tree) (T : Ask → Type 0) (final : Ask) where
  pub chain_part : (xs : List Pending) (p : Ask) → Chain ts T final xs p → Within (outcome p).built (outcome final).built
  chain_part [] p e t m = subst (λ (q : Ask). t ∈ (outcome q).built) e m
  chain_part (x ∷ xs) p c t m = chain_part xs c.0 c.2 t (left_part ts T c.0 p c.1.then c.1.left t m)

  pub chain_inside : (xs : List Pending) (p : Ask) → Chain ts T final xs p → Within (outcome p).asked (outcome final).asked
  chain_inside [] p e r m = subst (λ (q : Ask). r ∈ (outcome q).asked) e m
  chain_inside (x ∷ xs) p c r m = chain_inside xs c.0 c.2 r (left_inside ts T c.0 p c.1.then c.1.left r m)

-- a question on diagrams asks one question of their trees
pub asks_once : (ts : List Tree) (question : Question) (p q : Ask) → Asks ts question p → Asks ts question q → p ≡ q
asks_once ts question p q a b = sym a.is ∙ b.is

-- what is told stays told
module _ (ts : List Tree) (T : Ask → Type 0) (ts' : List Tree) (T' : Ask → Type 0) (kept : Kept ts ts') (more : (r : Ask) → T r → T' r) where
  -- the answer to q has come
  pub step_answers : (q : Ask) (d : Diagram) (xs : List Pending) (n : ℕ) → weight xs < n → Arrives ts' T' d q → Steps ts T ts' T' q xs xs n (Answering d)
  step_answers q d xs n less a = record { runs = λ final c. (q, a, chain_kept ts ts' kept T T' more final xs q c); fewer = less }

module _ (ts : List Tree) (T T' : Ask → Type 0) (more : (r : Ask) → T r → T' r) where
  -- a question is answered that is not opened
  pub put_answers : (question : Question) (xs : List Pending) (a : Puttable ts (length xs) question) (d : Diagram) → Arrives ts T' d a.this
      → Steps ts T ts T' (ask_at ts question) xs xs (8 * span (48 - length xs) + weight xs) (Answering d)
  put_answers question xs a d s =
      subst (λ q. Steps ts T ts T' q xs xs (8 * span (48 - length xs) + weight xs) (Answering d)) (sym a.asks.is)
      (step_answers ts T ts T' (kept_same ts) more a.this d xs _ (answering_falls (length xs) (weight xs)) s)

  -- q waits for the next question of what is left to do
  module _ (q : Ask) (question : Question) (asks : Asks ts question q) (good : GoodAsk 1 q) (unseen : sight q ≡ opens) where
    waits_on : (w : Wait) (xs : List Pending) (n : ℕ) (next : Ask) → length xs < split_at q → suc (ahead w.frame) < n
        → Asks ts w.question next → Pends ts T' (length xs) (record { question = question; frame = w.frame }) q next
        → Steps ts T ts T' q xs (record { question = question; frame = w.frame } ∷ xs) (n * span (48 - length xs) + weight xs) (Asking w.question)
    waits_on w xs n next deep less a pends =
        let fits = split_below 1 q good unseen in
        record {
          runs = λ final c. (record { this = next; from = suc (split_at q); asks = a; good = pends.left.leads.0; deep = omega arith }, (q, pends, chain_kept ts ts (kept_same ts) T T' more final xs q c));
          fewer = asking_falls (suc (ahead w.frame)) n (length xs) (weight xs) less (omega arith);
        }

    pub step_waits : (w : Wait) (xs ys : List Pending) (n : ℕ) (s : Script) → length xs < split_at q → suc (ahead w.frame) < n → Left ts T' q s → Waits ts w s
        → ys ≡ record { question = question; frame = w.frame } ∷ xs → Steps ts T ts T' q xs ys (n * span (48 - length xs) + weight xs) (Asking w.question)
    step_waits w xs ys n s deep less left waits e =
        subst (λ zs. Steps ts T ts T' q xs zs (n * span (48 - length xs) + weight xs) (Asking w.question)) (sym e)
        (waits_on w xs n waits.next deep less waits.asks
        (record {
          asks = asks;
          good = good;
          unseen = unseen;
          deep = deep;
          then = waits.then;
          awaits = waits.awaits;
          left = subst (Left ts T' q) waits.is left;
        }))

  -- a question is opened
  pub put_opens : (question : Question) (xs ys : List Pending) (a : Puttable ts (length xs) question) → sight a.this ≡ opens
      → (w : Wait) → Waits ts w (script a.this) → ys ≡ record { question = question; frame = w.frame } ∷ xs
      → Steps ts T ts T' (ask_at ts question) xs ys (8 * span (48 - length xs) + weight xs) (Asking w.question)
  put_opens question xs ys a unseen w waits e =
      let q = a.this in
      let few = ahead_few w.frame in
      let good = good_ask_member a.from q a.good in
      subst (λ z. Steps ts T ts T' z xs ys (8 * span (48 - length xs) + weight xs) (Asking w.question)) (sym a.asks.is)
      (step_waits q question a.asks good unseen w xs ys 8 (script q) (put_deep ts question (length xs) a unseen).0 (omega arith) (left_begins ts T' q good unseen) waits e)

-- the answer to q is to be built
module _ (ts : List Tree) (T : Ask → Type 0) (q : Ask) (k : Node) (s : Script) (left : Left ts T q s) (b : Builds ts k s) where
  rest : Left ts T q (builds k.member b.low_tree b.high_tree)
  rest = subst (Left ts T q) b.is left

  pub builds_fitting : Fitting ts k
  builds_fitting = record {
    names = (b.low_is.within, b.high_is.within);
    good = subst (Good 1) (sym (build_is ts k.member k.low k.high b.low_tree b.high_tree b.low_is b.high_is)) (built_good ts T q k.member b.low_tree b.high_tree rest);
  }

  module _ (ts' : List Tree) (d : Diagram) (j : Made ts (build k.member b.low_tree b.high_tree) (made k.member b.low_tree b.high_tree) d ts') where
    pub built_settled : Settled ts' d q
    built_settled = record {
      denotes = subst (Denotes ts' d) (built_answer ts T q k.member b.low_tree b.high_tree rest) j.denotes;
      held = λ t m. within_joined ts (made k.member b.low_tree b.high_tree) ts' (kept_within ts ts' j.kept) j.there t (built_cover ts T q k.member b.low_tree b.high_tree rest t m);
    }

    pub built_grows : Grows ts ts' q
    built_grows = record {
      kept = j.kept;
      only = λ t m. within_right ts (made k.member b.low_tree b.high_tree) (outcome q).built (built_part ts T q k.member b.low_tree b.high_tree rest) t (j.only t m);
    }

  pub built_tells : (r : Ask) → r ∈ (outcome q).asked → (r ≡ q) ⊎ T r
  built_tells r m = built_others ts T q k.member b.low_tree b.high_tree rest r m

  pub built_lacks : (cap : ℕ) (ts' : List Tree) → Lacks cap ts (made k.member b.low_tree b.high_tree) ts' → Lacks cap ts (outcome q).built ts'
  built_lacks cap ts' l = record {
    full = l.full;
    missing = l.missing;
    among = built_part ts T q k.member b.low_tree b.high_tree rest l.missing l.among;
    absent = l.absent;
    same = l.same;
  }

-- nothing changes
pub grows_none : (ts ts' : List Tree) (q : Ask) → ts' ≡ ts → Grows ts ts' q
grows_none ts ts' q e = subst (λ us. Grows ts us q) (sym e) (record { kept = kept_same ts; only = in_left ts (outcome q).built })

-- a right answer is noted
pub all_noted : (ts ts' : List Tree) (ns ns' : List Note) (question : Question) (d : Diagram) {k k' : Type 0}
    → Kept ts ts' → AllRight ts ns → Right ts' (question, d) → Noted k k' ns ns' question d → AllRight ts' ns'
all_noted ts ts' ns ns' question d kept all r noted n m =
    ⊎_elim (λ (e : n ≡ (question, d)). subst (Right ts') (sym e) r) (λ (o : n ∈ ns). right_kept ts ts' kept n (all n o)) (noted.only n m)
