-- A memo is asked for a note: what is told stays told, and what was counted stays counted.
use Rattle.std.proofs.Common.{◌≡◌, ℕ, ◌+◌, ◌-◌, ◌^◌, min, List, ◌∷◌, length, Some, None, Option, sym, subst}
use mathlib.Core.Logic.{∥∥₁_map}
use Rattle.interning.specs.Distinct.{◌∈◌}
use Rattle.memos.specs.declared.diagram.Diagram.{Diagram}
use Rattle.memos.specs.declared.question.Question.{Question}
use Rattle.memos.specs.Notes.{Note, Recalled}
use Rattle.families.specs.Questions.{Ask, sight, opens}
use Rattle.families.proofs.Solving.{good_ask_member}
use Rattle.diagrams.specs.declared.nodes.NodeMemory.{NodeMemory}
use Rattle.diagrams.specs.declared.solve.Pending.{Pending}
use Rattle.diagrams.specs.Asking.{Asks, ask_at}
use Rattle.diagrams.specs.Memory.{trees}
use Rattle.diagrams.specs.Solving.{AllRight, Settled, Arrives, HasNote, Closed, Chain, Puttable, Tally, CountsOn, told}
use Rattle.diagrams.proofs.Stepping.{asks_once}
use Rattle.diagrams.proofs.Tallying.{tally_opens}

module _ (keeps keeps' : Type 0) (m : NodeMemory) (ns ns' : List Note) (question : Question) where
  module _ (r : Option Diagram) (told_of : Recalled keeps keeps' ns ns' question r) where
    pub recalled_more : (q : Ask) → told keeps (trees m) ns q → told keeps' (trees m) ns' q
    recalled_more q h k = subst (λ z. HasNote (trees m) z q) (sym told_of.notes) (h (told_of.already k))

    pub recalled_right : ∥ AllRight (trees m) ns ∥₁ → ∥ AllRight (trees m) ns' ∥₁
    recalled_right right = ∥∥₁_map right (λ all. subst (AllRight (trees m)) (sym told_of.notes) all)

    pub recalled_closed : ∥ (keeps → Closed (trees m) ns) ∥₁ → ∥ (keeps' → Closed (trees m) ns') ∥₁
    recalled_closed closed = ∥∥₁_map closed (λ c k. subst (Closed (trees m)) (sym told_of.notes) (c (told_of.already k)))

    -- no question is opened
    pub recalled_counts : (q : Ask) (xs : List Pending) (n : ℕ) → CountsOn keeps keeps' (trees m) ns (trees m) ns' q xs xs xs n n
    recalled_counts q xs n k us ms final c t = subst (λ z. Tally us ms (trees m) z final xs n) (sym told_of.notes) t

  -- a note answers the question
  pub recalled_arrives : (d : Diagram) (n : ℕ) (a : Puttable (trees m) n question) → Recalled keeps keeps' ns ns' question (Some d) → AllRight (trees m) ns → (keeps → Closed (trees m) ns)
      → Arrives (trees m) (told keeps' (trees m) ns') d a.this
  recalled_arrives d n a told_of all closed =
      let w = all (question, d) told_of.told in
      record {
        settled = subst (Settled (trees m) d) (asks_once (trees m) question w.this a.this w.asks a.asks) w.settled;
        tells = λ r i. recalled_more (Some d) told_of r (λ k. closed k a.this r ((question, d), told_of.told, a.asks) i);
      }

  -- no note does, and the question is opened
  pub opened_counts : (x : Pending) (xs ys : List Pending) (a : Puttable (trees m) (length xs) question) → sight a.this ≡ opens → Recalled keeps keeps' ns ns' question None
      → (n n' : ℕ) → n' ≡ min (n + 1) (2 ^ 64 - 1) → x.question ≡ question → ys ≡ x ∷ xs → CountsOn keeps keeps' (trees m) ns (trees m) ns' (ask_at (trees m) question) xs xs ys n n'
  opened_counts x xs ys a unseen told_of n n' more same e k us ms final c t =
      let ts = trees m in
      let q = a.this in
      let good = good_ask_member a.from q a.good in
      let unasked = subst (λ z. (d : Diagram) → (z, d) ∈ ns → ⊥) (sym same) (told_of.told (told_of.already k)) in
      let asks = subst (λ z. Asks ts z q) (sym same) a.asks in
      let chain = subst (λ p. Chain ts (told keeps ts ns) final xs p) a.asks.is c in
      subst (λ zs. Tally us ms ts ns' final zs n') (sym e)
      (subst (λ z. Tally us ms ts z final (x ∷ xs) n') (sym told_of.notes)
      (tally_opens m us ms ns (told keeps ts ns) final x xs q asks good unseen unasked chain n n' t more))
