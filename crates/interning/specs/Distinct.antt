-- Lists without repetitions, and how many different entries a list has. Assumes nothing.
use Rattle.std.specs.Prelude.{◌≡◌, ◌<◌, ◌≤◌, Bool, false, cond, ◌||◌, ◌⊎◌, List, [], ◌∷◌, length, Decides}

infix 4 ◌∈◌
-- `same` says yes of an entry and itself, and of no other two
abbrev pub Exact : {A : Type 0} → (A → A → Bool) → Type 0
Exact {A} same = (x y : A) → Decides (same x y) (x ≡ y)

-- x is an entry of the list
abbrev pub ◌∈◌ : {A : Type 0} → A → List A → Type 0
x ∈ [] = ⊥
x ∈ (y ∷ ys) = (x ≡ y) ⊎ (x ∈ ys)

-- each entry of xs is one of ys
abbrev pub Within : {A : Type 0} → List A → List A → Type 0
Within {A} xs ys = (x : A) → x ∈ xs → x ∈ ys

-- no entry is there twice
abbrev pub NoRepeat : {A : Type 0} → List A → Type 0
NoRepeat [] = Unit {0}
NoRepeat (x ∷ xs) = (x ∈ xs → ⊥) × NoRepeat xs

-- whether x is an entry of the list
unfoldable pub among : {A : Type 0} → (A → A → Bool) → A → List A → Bool
among same x [] = false
among same x (y ∷ ys) = same x y || among same x ys

-- the list with each entry once
unfoldable pub distinct : {A : Type 0} → (A → A → Bool) → List A → List A
distinct same [] = []
distinct same (x ∷ xs) = cond (among same x xs) (distinct same xs) (x ∷ distinct same xs)

-- `distinct` keeps each entry, adds none, and repeats none.
abbrev pub Distinguishes : Type 0 → Type 0
Distinguishes A = (same : A → A → Bool) → Exact same → (xs : List A) → Within xs (distinct same xs) × Within (distinct same xs) xs × NoRepeat (distinct same xs)

-- What has no repetition, with entries of ys, is as long as ys has different entries if it has them all, and else shorter.
pub record Counted {A : Type 0} (same : A → A → Bool) (xs ys : List A) : Type 0 where
  pub within : length xs ≤ length (distinct same ys)
  pub all : Within ys xs → length xs ≡ length (distinct same ys)
  pub lacks : (x : A) → x ∈ ys → (x ∈ xs → ⊥) → length xs < length (distinct same ys)

-- Lists without repetitions that have the same entries are equally long.
abbrev pub Agree : Type 0 → Type 0
Agree A = (xs ys : List A) → NoRepeat xs → NoRepeat ys → Within xs ys → Within ys xs → length xs ≡ length ys

-- So a list without repetitions counts the different entries of another.
abbrev pub Counts : Type 0 → Type 0
Counts A = (same : A → A → Bool) → Exact same → (xs ys : List A) → NoRepeat xs → Within xs ys → Counted same xs ys
