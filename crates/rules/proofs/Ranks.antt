-- A class is known by its rank.
use Rattle.std.proofs.Common.{◌≡◌, ℕ, false, eqb, [], ◌∷◌, get_or, sym, refl, ap, ◌∙◌}
use Rattle.std.proofs.lemmas.Bool.{ne_eqb}
use Rattle.rules.specs.declared.classes.Class.{Class}
use Rattle.rules.specs.declared.classes.Class.TheVariants.{Digit, Letter, Open, Close, Blank, Other}
use Rattle.rules.specs.Runs.{rank}

abbrev ranked : ℕ → Class
ranked n = get_or (Digit ∷ Letter ∷ Open ∷ Close ∷ Blank ∷ []) n Other

ranked_rank : (c : Class) → ranked (rank c) ≡ c
ranked_rank Digit = refl
ranked_rank Letter = refl
ranked_rank Open = refl
ranked_rank Close = refl
ranked_rank Blank = refl
ranked_rank Other = refl

pub same_rank : (c k : Class) → rank c ≡ rank k → c ≡ k
same_rank c k e = sym (ranked_rank c) ∙ ap ranked e ∙ ranked_rank k

pub other_rank : (c k : Class) → (c ≡ k → ⊥) → eqb (rank c) (rank k) ≡ false
other_rank c k ne = ne_eqb (rank c) (rank k) (λ e. ne (same_rank c k e))
