-- The ways in which a key is interned, and what each of them keeps. Assumes nothing.
use Rattle.std.proofs.Common.{◌≡◌, ℕ, ◌<◌, List, [], ◌∷◌, ◌++◌, length, get_or, Ok, Err, Result, sym, refl, subst, inl, inr, ⊎_elim}
use Rattle.interning.specs.declared.interner.Full.{Full}
use Rattle.interning.specs.Places.{Absent, Stands, Only, Apart, Kept}
use Rattle.interning.specs.Interned.{Placed, Appended, Interned}
use Rattle.interning.proofs.Places.{kept_same, kept_push, stands_push, only_push, places_push, apart_push}

-- a key that stood somewhere stays there
pub placed_old : {K : Type 0} (cap : ℕ) {ks : List K} {k : K} {i : ℕ} → Stands ks k i → Only ks k i → Placed cap ks k i ks
placed_old cap {ks} stands only = record { stands = stands; only = only; kept = kept_same ks; change = inl refl }

-- an absent key takes the next place
pub placed_new : {K : Type 0} (cap : ℕ) (ks : List K) (k : K) (i : ℕ) (ks' : List K) → ks' ≡ ks ++ (k ∷ []) → i ≡ length ks → i < cap → Absent ks k → Placed cap ks k i ks'
placed_new cap ks k i ks' more last free absent = record {
  stands = subst (λ xs. Stands xs k i) (sym more) (subst (Stands (ks ++ (k ∷ [])) k) (sym last) (stands_push ks k));
  only = subst (λ xs. Only xs k i) (sym more) (subst (Only (ks ++ (k ∷ [])) k) (sym last) (only_push ks k absent));
  kept = subst (Kept ks) (sym more) (kept_push ks k);
  change = inr (record { last = last; free = free; absent = absent; more = more });
}

-- what holds of each place, and of the next one with the key, holds of each place after
pub interned_places : {K : Type 0} (P : ℕ → K → Type 0) (cap : ℕ) (ks : List K) (k : K) (r : Result ℕ Full) (ks' : List K) → Interned cap ks k r ks' → ((i : ℕ) (d : K) → i < length ks → P i (get_or ks i d)) → P (length ks) k → (i : ℕ) (d : K) → i < length ks' → P i (get_or ks' i d)
interned_places {K} P cap ks k (Ok i) ks' placed old new =
    let All : List K → Type 0 = λ xs. (i : ℕ) (d : K) → i < length xs → P i (get_or xs i d) in
    ⊎_elim (λ (e : ks' ≡ ks). subst All (sym e) old) (λ (a : Appended cap ks k i ks'). subst All (sym a.more) (places_push ks k P old new)) placed.change
interned_places {K} P cap ks k (Err e) ks' refused old new = subst (λ (xs : List K). (i : ℕ) (d : K) → i < length xs → P i (get_or xs i d)) (sym refused.same) old

-- keys that are pairwise different stay so
pub interned_apart : {K : Type 0} (cap : ℕ) (ks : List K) (k : K) (r : Result ℕ Full) (ks' : List K) → Interned cap ks k r ks' → Apart ks → Apart ks'
interned_apart cap ks k (Ok i) ks' placed apart =
    ⊎_elim (λ (e : ks' ≡ ks). subst Apart (sym e) apart) (λ (a : Appended cap ks k i ks'). subst Apart (sym a.more) (apart_push ks k apart a.absent)) placed.change
interned_apart cap ks k (Err e) ks' refused apart = subst Apart (sym refused.same) apart

-- every key keeps its place
pub interned_kept : {K : Type 0} (cap : ℕ) (ks : List K) (k : K) (r : Result ℕ Full) (ks' : List K) → Interned cap ks k r ks' → Kept ks ks'
interned_kept cap ks k (Ok i) ks' placed = placed.kept
interned_kept cap ks k (Err e) ks' refused = subst (Kept ks) (sym refused.same) (kept_same ks)
