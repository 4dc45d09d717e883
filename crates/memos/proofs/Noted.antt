-- What a memo's promise of a note comes to. Assumes nothing.
use Rattle.std.proofs.Common.{◌≡◌, true, List, ◌++◌, is_some, Some, None, Option, sym, refl, subst, inl, inr, ⊎_elim}
use Rattle.interning.specs.Distinct.{◌∈◌}
use Rattle.memos.specs.declared.diagram.Diagram.{Diagram}
use Rattle.memos.specs.declared.question.Question.{Question}
use Rattle.memos.specs.Notes.{Note, Told, Noted}
use Rattle.memos.specs.Noting.{noted}
use Rattle.memos.proofs.Joined.{in_left, in_right, in_either}
use Rattle.memos.proofs.Noting.{only_noted, new_noted, others_noted}

module _ (q : Question) (a : Diagram) {keeps : Type 0} (ns : List Note) where
  -- a memo that notes an answer so loses nothing
  pub noted_keeps : Noted keeps keeps ns (noted q a ns) q a
  noted_keeps = record { only = λ n. only_noted q a n ns; already = λ k. k; new = λ k. new_noted q a ns; others = λ k p b. others_noted q a p b ns }

module _ {keeps keeps' : Type 0} {q : Question} {a : Diagram} {ns ns' : List Note} (ms : List Note) (noting : Noted keeps keeps' ns ns' q a) where
  -- notes beside that stay
  pub noted_before : Noted keeps keeps' (ns ++ ms) (ns' ++ ms) q a
  noted_before = record {
    only = λ n m. ⊎_elim (λ l. ⊎_elim (λ e. inl e) (λ h. inr (in_left n ns ms h)) (noting.only n l)) (λ r. inr (in_right n ns ms r)) (in_either n ns' ms m);
    already = noting.already;
    new = λ k. in_left (q, a) ns' ms (noting.new k);
    others = λ k p b ne m. ⊎_elim (λ l. in_left (p, b) ns' ms (noting.others k p b ne l)) (λ r. in_right (p, b) ns' ms r) (in_either (p, b) ns ms m);
  }

  pub noted_after : Noted keeps keeps' (ms ++ ns) (ms ++ ns') q a
  noted_after = record {
    only = λ n m. ⊎_elim (λ l. inr (in_left n ms ns l)) (λ r. ⊎_elim (λ e. inl e) (λ h. inr (in_right n ms ns h)) (noting.only n r)) (in_either n ms ns' m);
    already = noting.already;
    new = λ k. in_right (q, a) ms ns' (noting.new k);
    others = λ k p b ne m. ⊎_elim (λ l. in_left (p, b) ms ns' l) (λ r. in_right (p, b) ms ns' (noting.others k p b ne r)) (in_either (p, b) ms ns m);
  }

-- a memo that has every note tells an answer where there is one
pub told_some : (keeps : Type 0) (ns : List Note) (q : Question) (a : Diagram) (r : Option Diagram) → Told keeps ns q r → keeps → (q, a) ∈ ns → is_some r ≡ true
told_some keeps ns q a (Some b) told k m = refl
told_some keeps ns q a None told k m = absurd (told k a m)

-- what holds of each note before, and of the new one, holds of each after
pub all_noted : {keeps keeps' : Type 0} {ns ns' : List Note} {q : Question} {a : Diagram} (P : Note → Type 0) → Noted keeps keeps' ns ns' q a → ((n : Note) → n ∈ ns → P n) → P (q, a) → (n : Note) → n ∈ ns' → P n
all_noted P noting old new n m = ⊎_elim (λ e. subst P (sym e) new) (old n) (noting.only n m)
