-- What it means to intern a key: each different key gets one place, and keeps it. Assumes nothing.
use Rattle.std.specs.Prelude.{◌≡◌, ℕ, ◌<◌, ◌≤◌, ◌⊎◌, List, [], ◌∷◌, ◌++◌, length, Ok, Err, Result}
use Rattle.interning.specs.declared.interner.Full.{Full}
use Rattle.interning.specs.Places.{Absent, Stands, Only, Kept}

-- k stood at no place, and takes the next one, which is free
pub record Appended {K : Type 0} (cap : ℕ) (ks : List K) (k : K) (i : ℕ) (ks' : List K) : Type 0 where
  pub last : i ≡ length ks
  pub free : i < cap
  pub absent : Absent ks k
  pub more : ks' ≡ ks ++ (k ∷ [])

-- k stands at i and nowhere else, every key keeps its place, and no key is added but k, where it was absent
pub record Placed {K : Type 0} (cap : ℕ) (ks : List K) (k : K) (i : ℕ) (ks' : List K) : Type 0 where
  pub stands : Stands ks' k i
  pub only : Only ks' k i
  pub kept : Kept ks ks'
  pub change : (ks' ≡ ks) ⊎ Appended cap ks k i ks'

-- k stands at no place, none is free, and nothing changes
pub record Refused {K : Type 0} (cap : ℕ) (ks : List K) (k : K) (ks' : List K) : Type 0 where
  pub full : cap ≤ length ks
  pub absent : Absent ks k
  pub same : ks' ≡ ks

-- From the keys ks, with cap places, interning k answers r and leaves the keys ks'.
abbrev pub Interned : {K : Type 0} → ℕ → List K → K → Result ℕ Full → List K → Type 0
Interned cap ks k (Ok i) ks' = Placed cap ks k i ks'
Interned cap ks k (Err e) ks' = Refused cap ks k ks'
