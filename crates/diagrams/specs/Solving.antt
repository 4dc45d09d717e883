-- A question worked out over a node memory: right notes, open questions that wait for one another, and the steps of the work.
use Rattle.std.specs.Prelude.{◌≡◌, ℕ, zero, suc, ◌+◌, ◌-◌, ◌*◌, ◌^◌, ◌<◌, ◌≤◌, min, ◌⊎◌, List, [], ◌∷◌, ◌++◌, length, Result, MatchResult, OnOk}
use Rattle.interning.specs.declared.interner.Full.{Full}
use Rattle.interning.specs.Distinct.{◌∈◌, Within, NoRepeat, distinct}
use Rattle.interning.specs.Places.{Kept}
use Rattle.memos.specs.declared.diagram.Diagram.{Diagram}
use Rattle.memos.specs.declared.question.Question.{Question}
use Rattle.memos.specs.Notes.{Note}
use Rattle.families.specs.Trees.{Tree, equal}
use Rattle.families.specs.Questions.{Ask, sight, opens, split_at}
use Rattle.families.specs.Scripts.{Script, ask}
use Rattle.families.specs.Outcomes.{run, outcome, answer}
use Rattle.families.specs.Meanings.{GoodAsk}
use Rattle.families.specs.Leads.{Leads}
use Rattle.diagrams.specs.declared.solve.Step.{Step}
use Rattle.diagrams.specs.declared.solve.Step.TheVariants.{Ask as Asking, Answer as Answering}
use Rattle.diagrams.specs.declared.solve.Pending.{Pending}
use Rattle.diagrams.specs.Asking.{Asks}
use Rattle.diagrams.specs.Building.{Denotes, Lacks}
use Rattle.diagrams.specs.Frames.{Awaits, ahead}

-- the diagram is the answer to q, and everything that q builds is held
pub record Settled (ts : List Tree) (d : Diagram) (q : Ask) : Type 0 where
  pub denotes : Denotes ts d (answer q)
  pub held : Within (outcome q).built ts

-- the note answers a good question, and everything that the question builds is held
pub record Right (ts : List Tree) (n : Note) : Type 0 where
  pub this : Ask
  pub asks : Asks ts n.0 this
  pub good : GoodAsk 1 this
  pub settled : Settled ts n.1 this

-- every note is right
abbrev pub AllRight : List Tree → List Note → Type 0
AllRight ts ns = (n : Note) → n ∈ ns → Right ts n

-- the question q has a note
abbrev pub HasNote : List Tree → List Note → Ask → Type 0
HasNote ts ns q = (n : Note) × (n ∈ ns) × Asks ts n.0 q

-- where a question has a note, each question that is opened for it has one
abbrev pub Closed : List Tree → List Note → Type 0
Closed ts ns = (q p : Ask) → HasNote ts ns q → p ∈ (outcome q).asked → HasNote ts ns p

-- the question has a note, if the memo has kept every note
abbrev pub told : Type 0 → List Tree → List Note → Ask → Type 0
told keeps ts ns q = keeps → HasNote ts ns q

-- the trees keep their places, and none is added but what q builds
pub record Grows (ts ts' : List Tree) (q : Ask) : Type 0 where
  pub kept : Kept ts ts'
  pub only : Within ts' (ts ++ (outcome q).built)

-- the script s is what is left to do for q: it builds the answer, all that q builds and is not held yet, and opens all that q
-- opens and is not told yet
pub record Left (ts : List Tree) (T : Ask → Type 0) (q : Ask) (s : Script) : Type 0 where
  pub leads : Leads 1 (suc (split_at q)) q s
  pub comes : (run outcome s).answer ≡ answer q
  pub cover : Within (outcome q).built (ts ++ (run outcome s).built)
  pub part : Within (run outcome s).built (outcome q).built
  pub others : (r : Ask) → r ∈ (outcome q).asked → (r ≡ q) ⊎ (T r ⊎ (r ∈ (run outcome s).asked))
  pub inside : Within (run outcome s).asked (outcome q).asked

-- above n others, the open question q waits for the answer to p
pub record Pends (ts : List Tree) (T : Ask → Type 0) (n : ℕ) (x : Pending) (q p : Ask) : Type 0 where
  pub asks : Asks ts x.question q
  pub good : GoodAsk 1 q
  pub unseen : sight q ≡ opens
  pub deep : n < split_at q
  pub then : Tree → Script
  pub awaits : Awaits ts x.frame then
  pub left : Left ts T q (ask p then)

-- The newest open question waits for p, each other one for the question that was opened next, and the oldest is `final`.
abbrev pub Chain : List Tree → (Ask → Type 0) → Ask → List Pending → Ask → Type 0
Chain ts T final [] p = p ≡ final
Chain ts T final (x ∷ xs) p = (q : Ask) × Pends ts T (length xs) x q p × Chain ts T final xs q

-- the diagram is the answer to p, with all that p builds, and all that is opened for p is told
pub record Arrives (ts : List Tree) (T : Ask → Type 0) (d : Diagram) (p : Ask) : Type 0 where
  pub settled : Settled ts d p
  pub tells : (r : Ask) → r ∈ (outcome p).asked → T r

-- the open question x, above n others, waits for a question whose answer is d
pub record Due (ts : List Tree) (T : Ask → Type 0) (n : ℕ) (x : Pending) (d : Diagram) : Type 0 where
  pub this : Ask
  pub next : Ask
  pub pends : Pends ts T n x this next
  pub arrives : Arrives ts T d next

-- a good question, whose members are above n
pub record Puttable (ts : List Tree) (n : ℕ) (question : Question) : Type 0 where
  pub this : Ask
  pub from : ℕ
  pub asks : Asks ts question this
  pub good : GoodAsk from this
  pub deep : n < from

-- what the newest open question waits for is asked, or its answer has arrived
abbrev pub Runs : List Tree → (Ask → Type 0) → Ask → List Pending → Step → Type 0
Runs ts T final xs (Asking question) = (a : Puttable ts (length xs) question) × Chain ts T final xs a.this
Runs ts T final xs (Answering d) = (p : Ask) × Arrives ts T d p × Chain ts T final xs p

-- the first step asks q
abbrev pub Starts : List Tree → Step → Ask → Type 0
Starts ts (Asking question) q = Asks ts question q
Starts ts (Answering d) q = ⊥

-- q is one of the open questions
abbrev pub IsOpen : List Tree → List Pending → Ask → Type 0
IsOpen ts xs q = (x : Pending) × (x ∈ xs) × Asks ts x.question q

-- What was opened since the trees were ts and the notes ns: different questions, each opened for `final`, none of which had a
-- note; those that are answered have one now, the others are open, and nothing else was noted.
pub record Tally (ts : List Tree) (ns : List Note) (ts' : List Tree) (ns' : List Note) (final : Ask) (xs : List Pending) (opened : ℕ) : Type 0 where
  pub list : List Ask
  pub count : opened ≡ min (length list) (2 ^ 64 - 1)
  pub once : NoRepeat list
  pub only : (q : Ask) → q ∈ list → (q ∈ (outcome final).asked) × (HasNote ts ns q → ⊥)
  pub state : (q : Ask) → q ∈ list → HasNote ts' ns' q ⊎ IsOpen ts' xs q
  pub waiting : (q : Ask) → IsOpen ts' xs q → q ∈ list
  pub back : (q : Ask) → HasNote ts' ns' q → HasNote ts ns q ⊎ (q ∈ list)
  pub still : (q : Ask) → HasNote ts ns q → HasNote ts' ns' q
  pub closed : Closed ts' ns'

-- Where the memo has kept every note, what was counted before a step is counted after it: the open questions were zs, of which
-- those below q are xs, and then they are ys.
abbrev pub CountsOn : Type 0 → Type 0 → List Tree → List Note → List Tree → List Note → Ask → List Pending → List Pending → List Pending → ℕ → ℕ → Type 0
CountsOn keeps keeps' ts ns ts' ns' q xs zs ys opened opened' =
    keeps' → (us : List Tree) (ms : List Note) (final : Ask) → Chain ts (told keeps ts ns) final xs q → Tally us ms ts ns final zs opened → Tally us ms ts' ns' final ys opened'

-- From the trees ts and the notes ns to ts' and ns' so many different questions were opened of those asked: the ones that had no
-- note. Now they have one, and nothing else was noted.
pub record Tallied (ts : List Tree) (ns : List Note) (ts' : List Tree) (ns' : List Note) (asked : List Ask) (opened : ℕ) : Type 0 where
  pub list : List Ask
  pub count : opened ≡ min (length list) (2 ^ 64 - 1)
  pub once : NoRepeat list
  pub only : (p : Ask) → p ∈ list → (p ∈ asked) × (HasNote ts ns p → ⊥)
  pub all : (p : Ask) → p ∈ asked → HasNote ts ns p ⊎ (p ∈ list)
  pub still : (p : Ask) → HasNote ts ns p → HasNote ts' ns' p
  pub new : (p : Ask) → p ∈ list → HasNote ts' ns' p
  pub back : (p : Ask) → HasNote ts' ns' p → HasNote ts ns p ⊎ (p ∈ list)

-- the count, where q was answered
abbrev pub TalliedOut : List Tree → List Note → List Tree → List Note → Ask → Result Diagram Full → ℕ → Type 0
TalliedOut ts ns ts' ns' q r opened = OnOk r (Tallied ts ns ts' ns' (outcome q).asked opened)

-- From the trees ts, the notes ns and the first step the work has come to the trees ts' and the notes ns', with the open
-- questions xs, the count of those that were opened, and the next step.
pub record Works (keeps : Type 0) (ts : List Tree) (ns : List Note) (ts' : List Tree) (ns' : List Note) (first : Step) (xs : List Pending) (opened : ℕ) (step : Step) : Type 0 where
  pub final : Ask
  pub starts : Starts ts first final
  pub grows : Grows ts ts' final
  pub runs : Runs ts' (told keeps ts' ns') final xs step
  pub tally : keeps → Tally ts ns ts' ns' final xs opened

-- how much one frame weighs, with k places free above it
unfoldable pub span : ℕ → ℕ
span zero = 1
span (suc k) = 9 * span k

-- the steps that open questions may still take, as digits of one number
abbrev pub weight : List Pending → ℕ
weight [] = 0
weight (x ∷ xs) = suc (ahead x.frame) * span (48 - length xs) + weight xs

-- the steps that are left
abbrev pub load : List Pending → Step → ℕ
load xs (Asking question) = 8 * span (48 - length xs) + weight xs
load xs (Answering d) = weight xs

-- From the open questions xs, the newest of which waits for q, a step leads on, and less than n are left.
pub record Steps (ts : List Tree) (T : Ask → Type 0) (ts' : List Tree) (T' : Ask → Type 0) (q : Ask) (xs ys : List Pending) (n : ℕ) (step : Step) : Type 0 where
  pub runs : (final : Ask) → Chain ts T final xs q → Runs ts' T' final ys step
  pub fewer : load ys step < n

-- An answer is taken to the open question q: the work goes on, or a tree that q builds lacks a place.
abbrev pub Takes : ℕ → List Tree → (Ask → Type 0) → List Tree → (Ask → Type 0) → Ask → List Pending → List Pending → ℕ → Result Step Full → Type 0
Takes cap ts T ts' T' q xs ys n r = MatchResult r (Steps ts T ts' T' q xs ys n) (λ _. Lacks cap ts (outcome q).built ts')

-- how many places it takes to hold the trees ts and all that q builds
abbrev pub needed : List Tree → Ask → ℕ
needed ts q = length (distinct equal (ts ++ (outcome q).built))

-- q is answered with all that it builds, exactly where there are places enough for what was held and what q builds
abbrev pub WorkedOut : ℕ → List Tree → List Tree → Ask → Result Diagram Full → Type 0
WorkedOut cap ts ts' q r = MatchResult r (λ d. Settled ts' d q × (needed ts q ≤ cap)) (λ _. cap < needed ts q)
