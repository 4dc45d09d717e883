-- The entries of one list among those of another.
use Rattle.std.specs.Prelude.{List}
use Rattle.interning.specs.Distinct as entries

infix 40 ◌∈◌ ◌⊆◌
-- x stands somewhere in xs
abbrev pub ◌∈◌ : {A : Type 0} → A → List A → Type 0
x ∈ xs = entries.◌∈◌ x xs

-- each entry of xs is one of ys
abbrev pub ◌⊆◌ : {A : Type 0} → List A → List A → Type 0
xs ⊆ ys = entries.Within xs ys
