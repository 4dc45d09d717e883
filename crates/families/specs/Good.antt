-- Good trees: those of families, in which no group contains another.
use Rattle.std.specs.Prelude.{◌≡◌, ℕ, suc, ◌≤◌, Bool, true, false, ◌||◌, ◌==◌}
use Rattle.std.specs.List.{AllByRecursion}
use Rattle.families.specs.Groups.{Member, holds}
use Rattle.families.specs.Trees.{Tree, none, always, node, passes, groups, is_none, is_always}

-- v is a member, and at least b
abbrev pub Fits : ℕ → ℕ → Type 0
Fits b v = (b ≤ v) × Member v

-- no group of high contains a group of low
abbrev pub Apart : Tree → Tree → Type 0
Apart low high = AllByRecursion (λ n. passes low (holds n) ≡ false) (groups high)

-- members rise downward from b on, no high is none, and no group contains another
abbrev pub Good : ℕ → Tree → Type 0
Good b none = Unit {0}
Good b always = Unit {0}
Good b (node v l h) = record { fits : Fits b v; low : Good (suc v) l; high : Good (suc v) h; some : is_none h ≡ false; apart : Apart l h }

-- the tree of a family other than none and always
pub record Proper (t : Tree) : Type 0 where
  pub good : Good 1 t
  pub some : is_none t ≡ false
  pub more : is_always t ≡ false

-- v stands in the tree
abbrev pub occurs : Tree → ℕ → Bool
occurs none v = false
occurs always v = false
occurs (node w l h) v = v == w || (occurs l v || occurs h v)

-- no member of the tree is above n
abbrev pub Upto : ℕ → Tree → Type 0
Upto n t = (v : ℕ) → occurs t v ≡ true → v ≤ n
