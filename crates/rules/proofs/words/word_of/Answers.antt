use Rattle.std.proofs.Common.{◌≡◌, ℕ, List, [], ◌∷◌, length, get_or, Some, refl, arith, rules}
use Rattle.rules.specs.declared.words.Word.TheVariants.{Least}
use Rattle.rules.specs.Words.{word}
use Rattle.rules.proofs.words.word_of.Goals as goal

five : (w : List ℕ) → length w ≡ 5 → w ≡ get_or w 0 0 ∷ get_or w 1 0 ∷ get_or w 2 0 ∷ get_or w 3 0 ∷ get_or w 4 0 ∷ []
five [] n = absurd (omega arith)
five (a ∷ []) n = absurd (omega arith)
five (a ∷ b ∷ []) n = absurd (omega arith)
five (a ∷ b ∷ c ∷ []) n = absurd (omega arith)
five (a ∷ b ∷ c ∷ d ∷ []) n = absurd (omega arith)
five (a ∷ b ∷ c ∷ d ∷ e ∷ []) n = refl
five (a ∷ b ∷ c ∷ d ∷ e ∷ f ∷ w) n = absurd (omega arith)

is_least : (w : List ℕ) → length w ≡ 5 → get_or w 0 0 ≡ 108 → get_or w 1 0 ≡ 101 → get_or w 2 0 ≡ 97 → get_or w 3 0 ≡ 115 → get_or w 4 0 ≡ 116 → Some Least ≡ word w
is_least w n p q r s t = rw (five w n, p, q, r, s, t)

pub returns-in-least : goal.returns-in-least
returns-in-least c = let n : length c.args.letters.now ≡ 5 = omega arith in search (rules, is_least)
