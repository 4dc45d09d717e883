-- A family cut at a member, a member replaced by a family, and families other than none and always.
use Rattle.std.specs.Prelude.{◌≡◌, ℕ, Bool, true, false, ◌&&◌, ◌||◌, ◌↔◌}
use Rattle.families.specs.Sets.{without, counting}
use Rattle.families.specs.Trees.{Tree, passes}
use Rattle.families.specs.Good.{Good, Proper}
use Rattle.families.specs.Questions.{either, both, turn, off, on}
use Rattle.families.specs.Outcomes.{answer}

-- off passes what passes without u; off and on together pass what passes with u counted in; f is these two parts
pub record Cut (f : Tree) (u : ℕ) : Type 0 where
  pub off_asks : (g : ℕ → Bool) → passes (answer (off f u)) g ≡ passes f (without u g)
  pub on_asks : (g : ℕ → Bool) → (passes (answer (off f u)) g || passes (answer (on f u)) g) ≡ passes f (counting u true g)
  pub whole : (g : ℕ → Bool) → passes f g ≡ (passes (answer (off f u)) g || (g u && passes (answer (on f u)) g))

-- so it is of every good tree
abbrev pub Cuts : Type 0
Cuts = (f : Tree) → Good 1 f → (u : ℕ) → Cut f u

-- u in f replaced by g: each group of f with u has a group of g in its place
abbrev pub replaced : Tree → ℕ → Tree → Tree
replaced f u g = answer (either (answer (off f u)) (answer (both (answer (on f u)) g)))

-- a set passes when it passes f, with u counted in it exactly when it passes g
pub record Replaced (f : Tree) (u : ℕ) (g r : Tree) : Type 0 where
  pub good : Good 1 r
  pub asks : (s : ℕ → Bool) → passes r s ≡ passes f (counting u (passes g s) s)

-- replacing does that
abbrev pub Replacing : Type 0
Replacing = (f g : Tree) (u : ℕ) → Good 1 f → Good 1 g → Replaced f u g (replaced f u g)

-- a family is neither none nor always exactly when something passes, and not the empty set
abbrev pub ProperPasses : Type 0
ProperPasses = (f : Tree) → Good 1 f → Proper f ↔ ((g : ℕ → Bool) × (passes f g ≡ true) × (passes f (λ v. false) ≡ false))

-- what comes of two such families is such a family
pub record Kept (f g : Tree) : Type 0 where
  pub of_either : Proper (answer (either f g))
  pub of_both : Proper (answer (both f g))
  pub of_turn : Proper (answer (turn f))
  pub of_replaced : (u : ℕ) → Proper (replaced f u g)

-- either, both, turn and replacing keep that
abbrev pub ProperKept : Type 0
ProperKept = (f g : Tree) → Proper f → Proper g → Kept f g
