-- Laws of questions with their answers, place by place. Assumes nothing.
use Rattle.std.proofs.Common.{◌≡◌, ℕ, zero, suc, ◌<◌, ◌≤◌, true, false, cond, List, [], ◌∷◌, ◌++◌, length, get_or, set, sym, refl, ap, ◌∙◌, inl, inr, ⊎_elim, arith}
use Rattle.std.proofs.lemmas.Bool.{cases_Bool, cond-true, cond-false, or_from}
use Rattle.interning.specs.Distinct.{◌∈◌}
use Rattle.interning.specs.Places.{Absent, Only}
use Rattle.memos.specs.declared.diagram.Diagram.{Diagram}
use Rattle.memos.specs.declared.question.Question.{Question}
use Rattle.memos.specs.Questions.{same_question}
use Rattle.memos.specs.Noting.{asked, answered}
use Rattle.memos.specs.Halves.{paired}
use Rattle.memos.proofs.Questions.{same_exact}
use Rattle.memos.proofs.Noting.{answered_unasked}

-- there are as many notes as questions
pub length_paired : (qs : List Question) (ds : List Diagram) → length qs ≤ length ds → length (paired qs ds) ≡ length qs
unfolding paired
length_paired [] ds l = refl
length_paired (q ∷ qs) [] l = absurd (omega arith)
length_paired (q ∷ qs) (d ∷ ds) l = omega (arith, length_paired qs ds (omega arith))

-- no question but q itself is the same
told_apart : (p q : Question) → (p ≡ q → ⊥) → same_question p q ≡ false
told_apart p q ne = ⊎_elim (λ (t : same_question p q ≡ true). absurd (ne ((same_exact p q).0 t))) (λ f. f) (cases_Bool (same_question p q))

module _ (q : Question) where
  -- a question that stands at no place has no note
  pub asked_absent : (qs : List Question) (ds : List Diagram) → Absent qs q → asked q (paired qs ds) ≡ false
  unfolding paired asked
  asked_absent [] ds absent = refl
  asked_absent (p ∷ qs) [] absent = refl
  asked_absent (p ∷ qs) (d ∷ ds) absent =
      or_from (same_question p q) (asked q (paired qs ds)) (told_apart p q (absent zero q (omega arith))) (asked_absent qs ds (λ i e l. absent (suc i) e (omega arith)))

  -- a question is noted with the answer at its place
  pub in_paired : (qs : List Question) (ds : List Diagram) (i : ℕ) (e : Question) (d : Diagram) → i < length qs → i < length ds → get_or qs i e ≡ q → (q, get_or ds i d) ∈ paired qs ds
  unfolding paired
  in_paired [] ds i e d l m at = absurd (omega arith)
  in_paired (p ∷ qs) [] i e d l m at = absurd (omega arith)
  in_paired (p ∷ qs) (b ∷ ds) zero e d l m at = inl (λ i. (sym at i, b))
  in_paired (p ∷ qs) (b ∷ ds) (suc i) e d l m at = inr (in_paired qs ds i e d (omega arith) (omega arith) at)

  module _ (a : Diagram) where
    -- to change the answer at a question's one place is to change the question's answer
    pub paired_set : (qs : List Question) (ds : List Diagram) (i : ℕ) (e : Question) → i < length qs → get_or qs i e ≡ q → Only qs q i → paired qs (set ds i a) ≡ answered q a (paired qs ds)
    unfolding paired answered
    paired_set [] ds i e l at only = absurd (omega arith)
    paired_set (p ∷ qs) [] i e l at only = refl
    paired_set (p ∷ qs) (d ∷ ds) zero e l at only =
        let rest = asked_absent qs ds (λ j f m here. absurd (let z : suc j ≡ zero = only (suc j) f (omega arith) here in omega arith)) in
        let first : (p, a) ≡ cond (same_question p q) (q, a) (p, d) = ap (λ x. (x, a)) at ∙ sym (cond-true (same_question p q) (q, a) (p, d) ((same_exact p q).1 at)) in
        λ i. first i ∷ sym (answered_unasked q a (paired qs ds) rest) i
    paired_set (p ∷ qs) (d ∷ ds) (suc j) e l at only =
        let ne : p ≡ q → ⊥ = λ h. (let z : zero ≡ suc j = only zero e (omega arith) h in omega arith) in
        λ i. sym (cond-false (same_question p q) (q, a) (p, d) (told_apart p q ne)) i ∷ paired_set qs ds j e (omega arith) at (λ k f m here. (let z : suc k ≡ suc j = only (suc k) f (omega arith) here in omega arith)) i

    -- a question more at the end, with its answer
    pub paired_push : (qs : List Question) (ds : List Diagram) → length qs < length ds → paired (qs ++ (q ∷ [])) (set ds (length qs) a) ≡ paired qs ds ++ ((q, a) ∷ [])
    unfolding paired
    paired_push [] [] l = absurd (omega arith)
    paired_push [] (d ∷ ds) l = refl
    paired_push (p ∷ qs) [] l = absurd (omega arith)
    paired_push (p ∷ qs) (d ∷ ds) l = ap (λ ns. (p, d) ∷ ns) (paired_push qs ds (omega arith))
