-- Numerals whose value is capped: the digits that follow see no difference.
use Rattle.std.proofs.Common.{◌≡◌, ℕ, ◌+◌, ◌-◌, ◌*◌, min, true, false, ◌&&◌, eqb, List, [], ◌∷◌, fold, sym, refl, ap, ◌∙◌, arith}
use Rattle.std.specs.List.{starts_with}
use Rattle.std.proofs.lemmas.Bool.{cond-false, ne_eqb, false≢true}
use Rattle.rules.specs.Tokens.{decimal, value}

-- a digit read on from a value, each step capped
abbrev pub capped : ℕ → ℕ → ℕ
capped v d = min (min (v * 10) 65535 + (d - 48)) 65535

fold_capped : (ds : List ℕ) (v : ℕ) → fold capped (min v 65535) ds ≡ min (decimal v ds) 65535
fold_capped [] v = refl
fold_capped (d ∷ ds) v =
    let next : capped (min v 65535) d ≡ min (v * 10 + (d - 48)) 65535 = omega arith in
    ap (λ w. fold capped w ds) next ∙ fold_capped ds (v * 10 + (d - 48))

-- digits that do not begin with 0
pub value_read : (ds : List ℕ) → starts_with eqb ds (48 ∷ []) ≡ false → fold capped 0 ds ≡ value ds
value_read [] first = refl
value_read (d ∷ ds) first =
    let other : eqb d 48 ≡ false = ne_eqb d 48 (λ e. false≢true (sym first ∙ ap (λ k. eqb 48 k && true) e)) in
    fold_capped (d ∷ ds) 0 ∙ sym (cond-false (eqb d 48) 0 (min (decimal 0 (d ∷ ds)) 65535) other)
