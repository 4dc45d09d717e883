-- The notes in the places of the short memo. Assumes nothing.
use Rattle.std.proofs.Common.{◌≡◌, ℕ, zero, suc, ◌<◌, true, false, ◌⊎◌, List, [], ◌∷◌, length, get_or, set, Some, None, Option, sym, refl, subst, inl, inr, ⊎_elim, mod-lt, arith, lit<}
use Rattle.std.proofs.lemmas.Bool.{cases_Bool, cond-true, cond-false}
use Rattle.interning.specs.Distinct.{◌∈◌}
use Rattle.memos.specs.declared.diagram.Diagram.{Diagram}
use Rattle.memos.specs.declared.question.Question.{Question}
use Rattle.memos.specs.Notes.{Note, Told, Recalled}
use Rattle.memos.specs.Questions.{question_mark, same_question}
use Rattle.memos.specs.Short.{entries_notes, place_of, read}
use Rattle.memos.proofs.Questions.{same_exact}

in_rest : (e : Option Note) (es : List (Option Note)) (n : Note) → n ∈ entries_notes es → n ∈ entries_notes (e ∷ es)
in_rest None es n m = m
in_rest (Some e) es n m = inr m

-- what a place holds is a note
pub held_is_note : (es : List (Option Note)) (i : ℕ) (d : Option Note) (q : Question) (a : Diagram) → i < length es → get_or es i d ≡ Some (q, a) → (q, a) ∈ entries_notes es
held_is_note [] i d q a l e = absurd (omega arith)
held_is_note (x ∷ es) zero d q a l e = subst (λ y. (q, a) ∈ entries_notes (y ∷ es)) (sym e) (inl refl)
held_is_note (x ∷ es) (suc i) d q a l e = in_rest x es (q, a) (held_is_note es i d q a (omega arith) e)

-- a note put into a place is the only one that was not there before
pub only_put : (es : List (Option Note)) (i : ℕ) (q : Question) (a : Diagram) (n : Note) → n ∈ entries_notes (set es i (Some (q, a))) → (n ≡ (q, a)) ⊎ (n ∈ entries_notes es)
only_put [] i q a n m = inr m
only_put (x ∷ es) zero q a n m = ⊎_elim (λ e. inl e) (λ h. inr (in_rest x es n h)) m
only_put (None ∷ es) (suc i) q a n m = only_put es i q a n m
only_put (Some e ∷ es) (suc i) q a n m =
    ⊎_elim (λ e. inr (inl e)) (λ h. ⊎_elim (λ e. inl e) (λ o. inr (inr o)) (only_put es i q a n h)) m

told_read : (e : Option Note) (es : List (Option Note)) (i : ℕ) (q : Question) → i < length es → get_or es i None ≡ e → Told ⊥ (entries_notes es) q (read e q)
told_read None es i q l is = λ k. absurd k
told_read (Some (p, a)) es i q l is =
    ⊎_elim
    (λ (t : same_question p q ≡ true).
    subst (Told ⊥ (entries_notes es) q) (sym (cond-true (same_question p q) (Some a) None t))
    (subst (λ x. (x, a) ∈ entries_notes es) ((same_exact p q).0 t) (held_is_note es i None p a l is)))
    (λ (f : same_question p q ≡ false). subst (Told ⊥ (entries_notes es) q) (sym (cond-false (same_question p q) (Some a) None f)) (λ k. absurd k))
    (cases_Bool (same_question p q))

-- what is read at a question's place is an answer that is noted for it
pub recalled_read : (es : List (Option Note)) (q : Question) (r : Option Diagram) → length es ≡ 1024 → r ≡ read (get_or es (place_of q) None) q → Recalled ⊥ ⊥ (entries_notes es) (entries_notes es) q r
recalled_read es q r size e = record {
  told = subst (Told ⊥ (entries_notes es) q) (sym e) (told_read (get_or es (place_of q) None) es (place_of q) q (omega (arith, mod-lt (question_mark q) {m = 1024} (lit< tt))) refl);
  notes = refl;
  still = λ k. k;
  already = λ k. k;
}
