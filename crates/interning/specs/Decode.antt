-- Keys that name earlier places, and what such keys mean. Assumes nothing.
use Rattle.std.specs.Prelude.{◌≡◌, ℕ, ◌<◌, ◌≤◌, Bool, true, List, [], ◌∷◌, ◌++◌, length, Result, slice_index_or}
use Rattle.interning.specs.declared.interner.Full.{Full}
use Rattle.interning.specs.Places.{Apart, Each, Kept}
use Rattle.interning.specs.Interned.{Interned}

-- the meanings ts, and after them those of the keys: `tree ts k` is what k means over the meanings ts of the places before it
unfoldable pub decode_on : {K T : Type 0} → (List T → K → T) → List T → List K → List T
decode_on tree ts [] = ts
decode_on tree ts (k ∷ ks) = decode_on tree (ts ++ (tree ts k ∷ [])) ks

-- what the keys mean, place by place
abbrev pub decode : {K T : Type 0} → (List T → K → T) → List K → List T
decode tree ks = decode_on tree [] ks

-- each key names only places before its own: `below n k` says that every place that k names is below n
abbrev pub Rooted : {K : Type 0} → (ℕ → K → Type 0) → List K → Type 0
Rooted {K} below ks = (p : ℕ) (d : K) → p < length ks → below p (slice_index_or ks p d)

-- What `tree` has to meet, so that different keys mean different things. `proper` holds of what keys mean, if of nothing else.
pub record Readable {K T : Type 0} (tree : List T → K → T) (below : ℕ → K → Type 0) (proper : T → Type 0) : Type 0 where
  -- what is below a bound is below a higher one
  pub rises : (m n : ℕ) (k : K) → m ≤ n → below m k → below n k
  -- a key looks only at the places that it names
  pub local : (ts us : List T) (k : K) → below (length ts) k → tree (ts ++ us) k ≡ tree ts k
  -- what a key means is proper
  pub makes : (ts : List T) (k : K) → Each proper ts → below (length ts) k → proper (tree ts k)
  -- over meanings that are pairwise different, a key can be told by what it means
  pub tells : (ts : List T) (k k' : K) → Each proper ts → Apart ts → below (length ts) k → below (length ts) k' → tree ts k ≡ tree ts k' → k ≡ k'

-- One key more adds its meaning at the end, each key has one meaning, and keys that are added leave the meanings before them.
abbrev pub Decodes : Type 0 → Type 0 → Type 0
Decodes K T =
    (tree : List T → K → T) (ks ls : List K) (k : K)
    → (decode tree (ks ++ (k ∷ [])) ≡ decode tree ks ++ (tree (decode tree ks) k ∷ [])) × (length (decode tree ks) ≡ length ks) × Kept (decode tree ks) (decode tree (ks ++ ls))

-- Different keys mean different things.
abbrev pub Separates : Type 0 → Type 0 → Type 0
Separates K T =
    (tree : List T → K → T) (below : ℕ → K → Bool) (proper : T → Bool) → Readable tree (λ n k. below n k ≡ true) (λ t. proper t ≡ true)
    → (ks : List K) → Rooted (λ n x. below n x ≡ true) ks → Apart ks → Apart (decode tree ks)

-- To intern a key is to intern what it means.
abbrev pub Lifts : Type 0 → Type 0 → Type 0
Lifts K T =
    (tree : List T → K → T) (below : ℕ → K → Bool) (proper : T → Bool) → Readable tree (λ n k. below n k ≡ true) (λ t. proper t ≡ true)
    → (cap : ℕ) (ks : List K) (k : K) (r : Result ℕ Full) (ks' : List K) → Rooted (λ n x. below n x ≡ true) ks → Apart ks → below (length ks) k ≡ true
    → Interned cap ks k r ks' → Interned cap (decode tree ks) (tree (decode tree ks) k) r (decode tree ks')
