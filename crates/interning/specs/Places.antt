-- Lists in which each entry has a place, its index. Assumes nothing.
use Rattle.std.specs.Prelude.{◌≡◌, ℕ, ◌<◌, ◌≤◌, List, length, Some, None, Option, ◌≢◌, slice_index_or}

-- k stands at no place
abbrev pub Absent : {K : Type 0} → List K → K → Type 0
Absent {K} ks k = (i : ℕ) (d : K) → i < length ks → slice_index_or ks i d ≢ k

-- k stands at i
pub record Stands {K : Type 0} (ks : List K) (k : K) (i : ℕ) : Type 0 where
  pub within : i < length ks
  pub here : (d : K) → slice_index_or ks i d ≡ k

-- k stands at no place but i
abbrev pub Only : {K : Type 0} → List K → K → ℕ → Type 0
Only {K} ks k i = (j : ℕ) (d : K) → j < length ks → slice_index_or ks j d ≡ k → j ≡ i

-- no two places have the same entry
abbrev pub Apart : {K : Type 0} → List K → Type 0
Apart {K} ks = (i j : ℕ) (d : K) → i < j → j < length ks → slice_index_or ks i d ≢ slice_index_or ks j d

-- P holds of each entry
abbrev pub Each : {K : Type 0} → (K → Type 0) → List K → Type 0
Each {K} P ks = (i : ℕ) (d : K) → i < length ks → P (slice_index_or ks i d)

-- each place of ks has the same entry in ks'
pub record Kept {K : Type 0} (ks ks' : List K) : Type 0 where
  pub longer : length ks ≤ length ks'
  pub same : (p : ℕ) (d : K) → p < length ks → slice_index_or ks' p d ≡ slice_index_or ks p d

-- the place of k, or none where k stands at none
abbrev pub Sought : {K : Type 0} → List K → K → Option ℕ → Type 0
Sought ks k None = Absent ks k
Sought ks k (Some i) = Stands ks k i × Only ks k i

-- what stands at the place i, or none where i is past the end
abbrev pub Read : {K : Type 0} → List K → ℕ → Option K → Type 0
Read ks i None = length ks ≤ i
Read ks i (Some k) = Stands ks k i
