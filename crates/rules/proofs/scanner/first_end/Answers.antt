use Rattle.std.proofs.Common.{◌≡◌, ℕ, List, sym, refl, ◌⊎◌, ⊎_elim, subst}
use Rattle.rules.specs.declared.classes.Class.{Class}
use Rattle.rules.specs.declared.classes.Class.TheVariants.{Digit, Letter}
use Rattle.rules.specs.Runs.{Run, grow, lead}
use Rattle.rules.proofs.Cuts.{first_joined}
use Rattle.rules.proofs.scanner.first_end.Goals as goal

joins : (k : Class) → (k ≡ Digit) ⊎ (k ≡ Letter) → (a b : ℕ) (rs : List Run) → lead a k b rs ≡ grow a k b rs
joins k is a b rs =
    ⊎_elim (λ e. subst (λ j. lead a j b rs ≡ grow a j b rs) (sym e) refl) (λ e. subst (λ j. lead a j b rs ≡ grow a j b rs) (sym e) refl) is

pub returns-in-Digit : goal.returns-in-Digit
returns-in-Digit c =
    first_joined c.args.text.now _ (joins _ c.in-Digit.is) _ _ c.requires.within (sym c.from-class.ensures) c.run_end.ensures
