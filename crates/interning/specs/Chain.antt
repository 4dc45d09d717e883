-- How the slots of an interner are linked to chains, one for each bucket. Assumes nothing.
use Rattle.std.specs.Prelude.{◌≡◌, ℕ, ◌+◌, ◌-◌, ◌%◌, ◌^◌, ◌<◌, ◌≤◌, min, Bool, true, List, map, length, take, ◌≢◌, slice_index_or}
use Rattle.interning.specs.declared.slot.Slot.{Slot}

-- the keys of the used slots
abbrev pub keys : {K : Type 0} → List (Slot K) → ℕ → List K
keys xs used = map (λ s. s.key) (take used xs)

-- how many of n slots a link can name
abbrev pub room : ℕ → ℕ
room n = min n (2 ^ 32 - 1)

-- Chains over n buckets, by functions of the place. A link is one past the place that it names.
-- Links fall and stay in their bucket, no place of a bucket is jumped over, and no key is there twice.
pub record Chained {K : Type 0} (mark : K → ℕ) (n used : ℕ) (key : ℕ → K) (head next : ℕ → ℕ) : Type 0 where
  pub heads : (b : ℕ) → b < n → head b ≤ used
  pub nexts : (q : ℕ) → q < used → next q ≤ q
  pub first : (p : ℕ) → p < used → p < head (mark (key p) % n)
  pub older : (p q : ℕ) → p < q → q < used → mark (key p) % n ≡ mark (key q) % n → p < next q
  pub home_head : (b p : ℕ) → b < n → head b ≡ p + 1 → mark (key p) % n ≡ b
  pub home_next : (q p : ℕ) → q < used → next q ≡ p + 1 → mark (key p) % n ≡ mark (key q) % n
  pub apart : (p q : ℕ) → p < q → q < used → key p ≢ key q

-- the first `used` of the slots are in chains by the hash `mark`
pub record Linked {K : Type 0} (mark : K → ℕ) (xs : List (Slot K)) (used : ℕ) : Type 0 where
  pub chains : (d : Slot K) → Chained mark (length xs) used (λ p. (slice_index_or xs p d).key) (λ b. (slice_index_or xs b d).head.past) (λ q. (slice_index_or xs q d).next.past)

-- A walk for k has come to the cursor, which is in k's bucket: of the places of that bucket, only those before it may hold k.
pub record Seeking {K : Type 0} (mark : K → ℕ) (equal : K → K → Bool) (n used : ℕ) (key : ℕ → K) (k : K) (cursor : ℕ) : Type 0 where
  pub home : (p : ℕ) → cursor ≡ p + 1 → mark (key p) % n ≡ mark k % n
  pub before : (p : ℕ) → p < used → mark (key p) % n ≡ mark k % n → equal (key p) k ≡ true → p < cursor

-- the same over a list of slots, with a cursor among the used places
pub record Seeks {K : Type 0} (mark : K → ℕ) (equal : K → K → Bool) (xs : List (Slot K)) (used : ℕ) (k : K) (cursor : ℕ) : Type 0 where
  pub bound : cursor ≤ used
  pub at : (d : Slot K) → Seeking mark equal (length xs) used (λ p. (slice_index_or xs p d).key) k cursor
