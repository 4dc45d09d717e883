-- Laws of looking questions up, and of noting answers. Assumes nothing.
use Rattle.std.proofs.Common.{◌≡◌, Bool, true, false, cond, ◌||◌, ◌⊎◌, List, [], ◌∷◌, ◌++◌, length, sym, refl, ap, ◌∙◌, inl, inr, ⊎_elim, append_assoc, append-nil, arith}
use Rattle.std.proofs.lemmas.Bool.{or_cases, or_left, or_right, or_parts, or_from, cases_Bool, both_ways, cond-true, cond-false, cond_both}
use Rattle.interning.specs.Distinct.{◌∈◌}
use Rattle.memos.specs.declared.diagram.Diagram.{Diagram}
use Rattle.memos.specs.declared.question.Question.{Question}
use Rattle.memos.specs.Notes.{Note, Unasked}
use Rattle.memos.specs.Questions.{same_question}
use Rattle.memos.specs.Noting.{asked, answered, noted}
use Rattle.memos.proofs.Joined.{in_left, in_right, in_either}
use Rattle.memos.proofs.Questions.{same_exact}

or_assoc : (x y z : Bool) → (x || (y || z)) ≡ ((x || y) || z)
or_assoc true y z = refl
or_assoc false y z = refl

pub asked-++ : (q : Question) (ms ns : List Note) → asked q (ms ++ ns) ≡ asked q ms || asked q ns
unfolding asked
asked-++ q [] ns = refl
asked-++ q (m ∷ ms) ns = ap (λ b. same_question m.0 q || b) (asked-++ q ms ns) ∙ or_assoc (same_question m.0 q) (asked q ms) (asked q ns)

-- one note has one question
pub asked_one : (p q : Question) (a : Diagram) → asked p ((q, a) ∷ []) ≡ true → p ≡ q
unfolding asked
asked_one p q a e = ⊎_elim (λ h. sym ((same_exact q p).0 h)) (λ h. absurd (both_ways false refl h)) (or_cases (same_question q p) false e)

module _ (q : Question) where
  -- a question with a note is found
  pub asked_in : (a : Diagram) (ns : List Note) → (q, a) ∈ ns → asked q ns ≡ true
  unfolding asked
  asked_in a [] m = absurd m
  asked_in a (n ∷ ns) (inl e) = or_left (same_question n.0 q) (asked q ns) ((same_exact n.0 q).1 (sym (ap (λ x. x.0) e)))
  asked_in a (n ∷ ns) (inr m) = or_right (same_question n.0 q) (asked q ns) (asked_in a ns m)

  -- a question that is not found has no note
  pub unasked : (ns : List Note) → asked q ns ≡ false → Unasked ns q
  unasked ns e a m = both_ways (asked q ns) e (asked_in a ns m)

  module _ (a : Diagram) where
    pub length_answered : (ns : List Note) → length (answered q a ns) ≡ length ns
    unfolding answered
    length_answered [] = refl
    length_answered (n ∷ ns) = omega (arith, length_answered ns)

    pub answered-++ : (ms ns : List Note) → answered q a (ms ++ ns) ≡ answered q a ms ++ answered q a ns
    unfolding answered
    answered-++ [] ns = refl
    answered-++ (m ∷ ms) ns = ap (λ xs. cond (same_question m.0 q) (q, a) m ∷ xs) (answered-++ ms ns)

    -- where q has no answer, none changes
    pub answered_unasked : (ns : List Note) → asked q ns ≡ false → answered q a ns ≡ ns
    unfolding answered asked
    answered_unasked [] e = refl
    answered_unasked (n ∷ ns) e =
        let f = or_parts (same_question n.0 q) (asked q ns) e in
        λ i. cond-false (same_question n.0 q) (q, a) n f.0 i ∷ answered_unasked ns f.1 i

    -- a changed answer leaves the questions
    pub asked_answered : (p : Question) (ns : List Note) → asked p (answered q a ns) ≡ asked p ns
    unfolding answered asked
    asked_answered p [] = refl
    asked_answered p (n ∷ ns) =
        let stays : (cond (same_question n.0 q) (q, a) n).0 ≡ n.0 = cond_both (same_question n.0 q) (q, a) n (λ x. x.0 ≡ n.0) (λ t. sym ((same_exact n.0 q).0 t)) (λ f. refl) in
        λ i. same_question (stays i) p || asked_answered p ns i

    -- with a changed answer, a note is the new one or an old one
    pub only_answered : (n : Note) (ns : List Note) → n ∈ answered q a ns → (n ≡ (q, a)) ⊎ (n ∈ ns)
    unfolding answered
    only_answered n [] m = absurd m
    only_answered n (x ∷ ns) (inr m) = ⊎_elim (λ e. inl e) (λ h. inr (inr h)) (only_answered n ns m)
    only_answered n (x ∷ ns) (inl e) =
        ⊎_elim (λ (t : same_question x.0 q ≡ true). inl (e ∙ cond-true (same_question x.0 q) (q, a) x t))
        (λ (f : same_question x.0 q ≡ false). inr (inl (e ∙ cond-false (same_question x.0 q) (q, a) x f)))
        (cases_Bool (same_question x.0 q))

    pub new_answered : (ns : List Note) → asked q ns ≡ true → (q, a) ∈ answered q a ns
    unfolding answered asked
    new_answered [] e = absurd (both_ways false refl e)
    new_answered (n ∷ ns) e =
        ⊎_elim (λ (t : same_question n.0 q ≡ true). inl (sym (cond-true (same_question n.0 q) (q, a) n t)))
        (λ (t : asked q ns ≡ true). inr (new_answered ns t))
        (or_cases (same_question n.0 q) (asked q ns) e)

    pub others_answered : (p : Question) (b : Diagram) (ns : List Note) → (p ≡ q → ⊥) → (p, b) ∈ ns → (p, b) ∈ answered q a ns
    unfolding answered
    others_answered p b [] ne m = absurd m
    others_answered p b (n ∷ ns) ne (inr m) = inr (others_answered p b ns ne m)
    others_answered p b (n ∷ ns) ne (inl e) =
        ⊎_elim (λ (t : same_question n.0 q ≡ true). absurd (ne (ap (λ x. x.0) e ∙ (same_exact n.0 q).0 t)))
        (λ (f : same_question n.0 q ≡ false). inl (e ∙ sym (cond-false (same_question n.0 q) (q, a) n f)))
        (cases_Bool (same_question n.0 q))

    pub noted_old : (ns : List Note) → asked q ns ≡ true → noted q a ns ≡ answered q a ns
    noted_old ns e = cond-true (asked q ns) (answered q a ns) (ns ++ ((q, a) ∷ [])) e

    pub noted_new : (ns : List Note) → asked q ns ≡ false → noted q a ns ≡ ns ++ ((q, a) ∷ [])
    noted_new ns e = cond-false (asked q ns) (answered q a ns) (ns ++ ((q, a) ∷ [])) e

    pub only_noted : (n : Note) (ns : List Note) → n ∈ noted q a ns → (n ≡ (q, a)) ⊎ (n ∈ ns)
    only_noted n ns =
        cond_both (asked q ns) (answered q a ns) (ns ++ ((q, a) ∷ [])) (λ xs. n ∈ xs → (n ≡ (q, a)) ⊎ (n ∈ ns)) (λ t. only_answered n ns)
        (λ f m. ⊎_elim (λ h. inr h) (λ e. ⊎_elim (λ h. inl h) (λ z. absurd z) e) (in_either n ns ((q, a) ∷ []) m))

    pub new_noted : (ns : List Note) → (q, a) ∈ noted q a ns
    new_noted ns =
        cond_both (asked q ns) (answered q a ns) (ns ++ ((q, a) ∷ [])) (λ xs. (q, a) ∈ xs) (new_answered ns) (λ f. in_right (q, a) ns ((q, a) ∷ []) (inl refl))

    pub others_noted : (p : Question) (b : Diagram) (ns : List Note) → (p ≡ q → ⊥) → (p, b) ∈ ns → (p, b) ∈ noted q a ns
    others_noted p b ns ne m =
        cond_both (asked q ns) (answered q a ns) (ns ++ ((q, a) ∷ [])) (λ xs. (p, b) ∈ xs) (λ t. others_answered p b ns ne m) (λ f. in_left (p, b) ns ((q, a) ∷ []) m)

    -- the one new question is q
    pub asked_noted : (p : Question) (ns : List Note) → asked p (noted q a ns) ≡ true → (p ≡ q) ⊎ (asked p ns ≡ true)
    asked_noted p ns =
        cond_both (asked q ns) (answered q a ns) (ns ++ ((q, a) ∷ [])) (λ xs. asked p xs ≡ true → (p ≡ q) ⊎ (asked p ns ≡ true))
        (λ t e. inr (sym (asked_answered p ns) ∙ e))
        (λ f e. ⊎_elim (λ h. inr h) (λ h. inl (asked_one p q a h)) (or_cases (asked p ns) (asked p ((q, a) ∷ [])) (sym (asked-++ p ns ((q, a) ∷ [])) ∙ e)))

    -- where q had an answer, there are as many notes as before
    pub length_noted : (ns : List Note) → asked q ns ≡ true → length (noted q a ns) ≡ length ns
    length_noted ns e = ap length (noted_old ns e) ∙ length_answered ns

    -- to note an answer in the one of two lists that is to have it is to note it in both joined
    pub noted_left : (ms ns : List Note) → asked q ns ≡ false → (asked q ms ≡ true) ⊎ (ns ≡ []) → noted q a ms ++ ns ≡ noted q a (ms ++ ns)
    noted_left ms ns none how = ⊎_elim old new how
      where
        old : asked q ms ≡ true → noted q a ms ++ ns ≡ noted q a (ms ++ ns)
        old e =
            let there : asked q (ms ++ ns) ≡ true = asked-++ q ms ns ∙ or_left (asked q ms) (asked q ns) e in
            (λ i. noted_old ms e i ++ sym (answered_unasked ns none) i) ∙ sym (answered-++ ms ns) ∙ sym (noted_old (ms ++ ns) there)

        new : ns ≡ [] → noted q a ms ++ ns ≡ noted q a (ms ++ ns)
        new e =
            let joined : ms ++ ns ≡ ms = ap (λ xs. ms ++ xs) e ∙ append-nil ms in
            ap (λ xs. noted q a ms ++ xs) e ∙ append-nil (noted q a ms) ∙ ap (noted q a) (sym joined)

    pub noted_right : (ms ns : List Note) → asked q ms ≡ false → ms ++ noted q a ns ≡ noted q a (ms ++ ns)
    noted_right ms ns none =
        ⊎_elim
        (λ (t : asked q ns ≡ true).
        (λ i. sym (answered_unasked ms none) i ++ noted_old ns t i) ∙ sym (answered-++ ms ns) ∙ sym (noted_old (ms ++ ns) (asked-++ q ms ns ∙ or_right (asked q ms) (asked q ns) t)))
        (λ (f : asked q ns ≡ false).
        ap (λ xs. ms ++ xs) (noted_new ns f) ∙ sym (append_assoc ms ns ((q, a) ∷ [])) ∙ sym (noted_new (ms ++ ns) (asked-++ q ms ns ∙ or_from (asked q ms) (asked q ns) none f)))
        (cases_Bool (asked q ns))
