-- The entries of a stack, the newest first.
use Rattle.std.proofs.Common.{◌≡◌, ◌<◌, true, false, List, [], ◌∷◌, ◌++◌, refl, ap, ◌∙◌, reverse, length, arith}
use Rattle.std.proofs.lemmas.Bool.{false≢true}
use Rattle.std.proofs.lemmas.List.{reverse-append, length-reverse}
use Rattle.arrayvec.specs.ArrayVec.{ArrayVec, array_vec_len}
use Rattle.diagrams.specs.Stacks.{stacked}

pub stacked_more : {T : Type 0} (s s' : ArrayVec T) (newest : T) → s'.items ≡ s.items ++ (newest ∷ []) → stacked s' ≡ newest ∷ stacked s
stacked_more s s' newest e = ap reverse e ∙ reverse-append s.items (newest ∷ [])

pub stacked_length : {T : Type 0} (s : ArrayVec T) → length (stacked s) ≡ array_vec_len s
stacked_length s = length-reverse s.items

module _ {T : Type 0} where
  none_listed : (xs : List T) → (0 < length xs → false ≡ true) → reverse xs ≡ []
  none_listed [] e = refl
  none_listed (x ∷ xs) e = absurd (false≢true (e (omega arith)))

  pub stacked_none : (s : ArrayVec T) → (0 < array_vec_len s → false ≡ true) → stacked s ≡ []
  stacked_none s e = none_listed s.items e
