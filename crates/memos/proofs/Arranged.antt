-- How noting an answer leaves the two halves arranged. Assumes nothing.
use Rattle.std.proofs.Common.{Ok, ◌≡◌, ℕ, Bool, true, false, ◌⊎◌, List, [], ◌++◌, length, sym, ap, ◌∙◌, subst, inl, inr, ⊎_elim}
use mathlib.Core.Logic.{∥∥₁_elim}
use native.Mathlib.Nat.{ℕ_set}
use Rattle.std.proofs.lemmas.List.{nil_from_length}
use Rattle.std.proofs.lemmas.Bool.{cases_Bool, both_ways}
use Rattle.interning.specs.Distinct.{◌∈◌}
use Rattle.memos.specs.declared.diagram.Diagram.{Diagram}
use Rattle.memos.specs.declared.keeping.Current.{Current}
use Rattle.memos.specs.declared.keeping.Current.TheVariants.{First, Second}
use Rattle.memos.specs.declared.question.Question.{Question}
use Rattle.memos.specs.Arranged.{Filling, Arranged}
use Rattle.memos.specs.Halves.{Altered, Shared}
use Rattle.memos.specs.Notes.{Note, Noted}
use Rattle.memos.specs.Noting.{asked, noted}
use Rattle.memos.proofs.Noted.{noted_keeps, noted_before, noted_after}
use Rattle.memos.proofs.Noting.{asked_noted, length_noted, noted_left, noted_right}

filling_out : (c : Current) {w : Bool} {room : ℕ} {fs ss : List Note} → ∥ Arranged c w room fs ss ∥₁ → w ≡ true → Filling c room fs ss
filling_out First t e = ∥∥₁_elim t (ℕ_set _ _) (λ r. r.filling e)
filling_out Second t e = ∥∥₁_elim t (ℕ_set _ _) (λ r. r.filling e)

-- the arrangement comes out of its truncation
pub arranged_out : (c : Current) {w : Bool} {room : ℕ} {fs ss : List Note} → ∥ Arranged c w room fs ss ∥₁ → Arranged c w room fs ss
arranged_out c t = record { apart = λ q e h. ∥∥₁_elim t (λ x y. absurd x) (λ r. r.apart q e h); filling = filling_out c t }

-- two empty halves are arranged
pub arranged_none : (w : Bool) (room : ℕ) (fs ss : List Note) → fs ≡ [] → ss ≡ [] → Arranged First w room fs ss
unfolding asked
arranged_none w room fs ss none none' = record {
  apart = λ q e h. both_ways (asked q ss) (ap (asked q) none') h;
  filling = λ e. ap length none';
}

not_asked : (q : Question) (ns : List Note) → (asked q ns ≡ true → ⊥) → asked q ns ≡ false
not_asked q ns no_way = ⊎_elim (λ t. absurd (no_way t)) (λ f. f) (cases_Bool (asked q ns))

-- the claim of a memo that changes one half so
module _ (q : Question) (a : Diagram) (fs ss fs' ss' : List Note) where
  first_noted : {k : Type 0} → Altered fs ss q a fs' ss' → Noted k k (fs ++ ss) (fs' ++ ss') q a
  first_noted {k} alt = subst (λ ns. Noted k k (fs ++ ss) ns q a) (λ i. sym alt.put i ++ sym alt.stays i) (noted_before ss (noted_keeps q a fs))

  second_noted : {k : Type 0} → Altered ss fs q a ss' fs' → Noted k k (fs ++ ss) (fs' ++ ss') q a
  second_noted {k} alt = subst (λ ns. Noted k k (fs ++ ss) ns q a) (λ i. sym alt.stays i ++ sym alt.put i) (noted_after fs (noted_keeps q a ss))

  first_joined : Altered fs ss q a fs' ss' → asked q ss ≡ false → (asked q fs ≡ true) ⊎ (ss ≡ []) → fs' ++ ss' ≡ noted q a (fs ++ ss)
  first_joined alt none how = (λ i. alt.put i ++ alt.stays i) ∙ noted_left q a fs ss none how

  second_joined : Altered ss fs q a ss' fs' → asked q fs ≡ false → fs' ++ ss' ≡ noted q a (fs ++ ss)
  second_joined alt none = (λ i. alt.stays i ++ alt.put i) ∙ noted_right q a fs ss none

  first_apart : Altered fs ss q a fs' ss' → asked q ss ≡ false → ((p : Question) → asked p fs ≡ true → asked p ss ≡ true → ⊥) → (p : Question) → asked p fs' ≡ true → asked p ss' ≡ true → ⊥
  first_apart alt none apart p e h =
      let h' : asked p ss ≡ true = ap (asked p) (sym alt.stays) ∙ h in
      ⊎_elim (λ (same : p ≡ q). both_ways (asked q ss) none (subst (λ x. asked x ss ≡ true) same h')) (λ e'. apart p e' h')
      (asked_noted q a p fs (ap (asked p) (sym alt.put) ∙ e))

  second_apart : Altered ss fs q a ss' fs' → asked q fs ≡ false → ((p : Question) → asked p fs ≡ true → asked p ss ≡ true → ⊥) → (p : Question) → asked p fs' ≡ true → asked p ss' ≡ true → ⊥
  second_apart alt none apart p e h =
      let e' : asked p fs ≡ true = ap (asked p) (sym alt.stays) ∙ e in
      ⊎_elim (λ (same : p ≡ q). both_ways (asked q fs) none (subst (λ x. asked x fs ≡ true) same e')) (λ h'. apart p e' h')
      (asked_noted q a p ss (ap (asked p) (sym alt.put) ∙ h))

  -- what noting an answer without emptying a half comes to
  pub record Step (c : Current) (w : Bool) (room : ℕ) : Type 0 where
    pub sound : Noted (w ≡ true) (w ≡ true) (fs ++ ss) (fs' ++ ss') q a
    pub new : (q, a) ∈ (fs' ++ ss')
    pub others : (p : Question) (b : Diagram) → (p ≡ q → ⊥) → (p, b) ∈ (fs ++ ss) → (p, b) ∈ (fs' ++ ss')
    pub joined : w ≡ true → fs' ++ ss' ≡ noted q a (fs ++ ss)
    pub arranged : Arranged c w room fs' ss'

  module _ (w : Bool) (room room-s : ℕ) where
    -- while the first half is in use
    pub first_step : Arranged First w room fs ss → Shared room fs ss q a (Ok tt) fs' ss' → Step First w room
    first_step arr (inl (none, alt)) = record {
      sound = first_noted alt;
      new = (first_noted {k = Unit {0}} alt).new tt;
      others = (first_noted {k = Unit {0}} alt).others tt;
      joined = λ e. first_joined alt none (inr (nil_from_length ss (arr.filling e)));
      arranged = record { apart = first_apart alt none arr.apart; filling = λ e. ap length alt.stays ∙ arr.filling e };
    }
    first_step arr (inr (some, alt)) =
        let none : asked q fs ≡ false = not_asked q fs (λ t. arr.apart q t some) in
        record {
          sound = second_noted alt;
          new = (second_noted {k = Unit {0}} alt).new tt;
          others = (second_noted {k = Unit {0}} alt).others tt;
          joined = λ e. second_joined alt none;
          arranged = record { apart = second_apart alt none arr.apart; filling = λ e. ap length alt.put ∙ length_noted q a ss some ∙ arr.filling e };
        }

    -- while the second half is in use
    pub second_step : Arranged Second w room fs ss → Shared room-s ss fs q a (Ok tt) ss' fs' → Step Second w room
    second_step arr (inl (none, alt)) = record {
      sound = second_noted alt;
      new = (second_noted {k = Unit {0}} alt).new tt;
      others = (second_noted {k = Unit {0}} alt).others tt;
      joined = λ e. second_joined alt none;
      arranged = record { apart = second_apart alt none arr.apart; filling = λ e. ap length alt.stays ∙ arr.filling e };
    }
    second_step arr (inr (some, alt)) =
        let none : asked q ss ≡ false = not_asked q ss (λ t. arr.apart q some t) in
        record {
          sound = first_noted alt;
          new = (first_noted {k = Unit {0}} alt).new tt;
          others = (first_noted {k = Unit {0}} alt).others tt;
          joined = λ e. first_joined alt none (inl some);
          arranged = record { apart = first_apart alt none arr.apart; filling = λ e. ap length alt.put ∙ length_noted q a fs some ∙ arr.filling e };
        }
