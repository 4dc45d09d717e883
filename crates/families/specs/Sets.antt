-- Sets of numbers, given by their tests.
use Rattle.std.specs.Prelude.{◌≡◌, ℕ, Bool, true, false, cond, not, ◌&&◌, ◌||◌, List, [], ◌∷◌, ◌==◌}

-- the set of what stands in a list
abbrev pub has : List ℕ → ℕ → Bool
has [] n = false
has (x ∷ xs) n = n == x || has xs n

-- g is contained in h
abbrev pub Inside : (ℕ → Bool) → (ℕ → Bool) → Type 0
Inside g h = (v : ℕ) → g v ≡ true → h v ≡ true

-- g and h share something
abbrev pub Meet : (ℕ → Bool) → (ℕ → Bool) → Type 0
Meet g h = (v : ℕ) × (g v ≡ true) × (h v ≡ true)

-- what is not in g
abbrev pub rest : (ℕ → Bool) → ℕ → Bool
rest g v = not (g v)

-- g without u
abbrev pub without : ℕ → (ℕ → Bool) → ℕ → Bool
without u g v = not (v == u) && g v

-- g, with u counted in it exactly when b says so
abbrev pub counting : ℕ → Bool → (ℕ → Bool) → ℕ → Bool
counting u b g v = cond (v == u) b (g v)
