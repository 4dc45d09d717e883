-- A question is told by its words. Assumes nothing.
use Rattle.std.proofs.Common.{◌≡◌, ℕ, zero, suc, true, eqb, Decides, sym, refl, ap, ◌∙◌}
use Rattle.std.proofs.lemmas.Bool.{and_parts, and_from, eqb-true, eq-eqb}
use Rattle.memos.specs.declared.diagram.Diagram.{Diagram}
use Rattle.memos.specs.declared.question.Question.{Question}
use Rattle.memos.specs.declared.question.Question.TheVariants.{Either, Both, Less, Turn, Off, On}
use Rattle.memos.specs.Questions.{Words, words, same_question}

diagram : ℕ → Diagram
diagram n = record { code = n }

-- the question of given words
question : ℕ → ℕ → ℕ → Question
question zero l r = Either (diagram l) (diagram r)
question (suc zero) l r = Both (diagram l) (diagram r)
question (suc (suc zero)) l r = Less (diagram l) (diagram r)
question (suc (suc (suc zero))) l r = Turn (diagram l)
question (suc (suc (suc (suc zero)))) l r = Off (diagram l) r
question (suc (suc (suc (suc (suc k))))) l r = On (diagram l) r

asked : Words → Question
asked w = question w.kind w.left w.right

asked_words : (q : Question) → asked (words q) ≡ q
unfolding diagram question asked
asked_words (Either f g) = refl
asked_words (Both f g) = refl
asked_words (Less f g) = refl
asked_words (Turn f) = refl
asked_words (Off f v) = refl
asked_words (On f v) = refl

-- only a question and itself are the same
pub same_exact : (p q : Question) → Decides (same_question p q) (p ≡ q)
same_exact p q = (there, back)
  where
    there : same_question p q ≡ true → p ≡ q
    there e =
        let k = and_parts (eqb (words p).kind (words q).kind) _ e in
        let lr = and_parts (eqb (words p).left (words q).left) _ k.1 in
        let same : words p ≡ words q = λ i. record { kind = eqb-true (words p).kind (words q).kind k.0 i; left = eqb-true (words p).left (words q).left lr.0 i; right = eqb-true (words p).right (words q).right lr.1 i } in
        sym (asked_words p) ∙ ap asked same ∙ asked_words q

    back : p ≡ q → same_question p q ≡ true
    back e =
        and_from _ _ (eq-eqb _ _ (ap (λ x. (words x).kind) e)) (and_from _ _ (eq-eqb _ _ (ap (λ x. (words x).left) e)) (eq-eqb _ _ (ap (λ x. (words x).right) e)))
