-- Laws of places, and what an entry more at the end leaves. Assumes nothing.
use Rattle.std.proofs.Common.{◌≡◌, ℕ, ◌<◌, ◌≤◌, List, [], ◌∷◌, ◌++◌, length, get_or, sym, refl, ◌∙◌, subst, ⊎_elim, append_assoc, append-nil, arith}
use Rattle.std.proofs.lemmas.Bool.{cases_lt}
use Rattle.std.proofs.lemmas.List.{length_push, get_or_push, get_or_append_left, get_or_default}
use Rattle.interning.specs.Places.{Absent, Stands, Only, Apart, Kept}

-- what holds of the empty list, and of xs with an entry more if of xs, holds of every list
pub push_induction : {A : Type 0} (P : List A → Type 0) → P [] → ((xs : List A) (x : A) → P xs → P (xs ++ (x ∷ []))) → (xs : List A) → P xs
push_induction {A} P none more xs = go [] xs none
  where
    go : (front back : List A) → P front → P (front ++ back)
    go front [] p = subst P (sym (append-nil front)) p
    go front (x ∷ back) p = subst P (append_assoc front (x ∷ []) back) (go (front ++ (x ∷ [])) back (more front x p))

-- one place has one entry
pub stands_same : {K : Type 0} {ks : List K} {k k' : K} {i : ℕ} → Stands ks k i → Stands ks k' i → k ≡ k'
stands_same {K} {ks} {k} s t = sym (s.here k) ∙ t.here k

-- where entries are pairwise different, places are told by their entries
pub apart_told : {K : Type 0} (ks : List K) → Apart ks → (i j : ℕ) (d : K) → i < length ks → j < length ks → get_or ks i d ≡ get_or ks j d → i ≡ j
apart_told ks apart i j d l m e =
    let below : i < j → ⊥ = λ o. apart i j d o m e in
    let above : j < i → ⊥ = λ o. apart j i d o l (sym e) in
    omega arith

-- so an entry has one place
pub only_apart : {K : Type 0} {ks : List K} {k : K} {i : ℕ} → Apart ks → Stands ks k i → Only ks k i
only_apart {K} {ks} {k} {i} apart stands j d l e = apart_told ks apart j i d l stands.within (e ∙ sym (stands.here d))

pub kept_same : {K : Type 0} (ks : List K) → Kept ks ks
kept_same ks = record { longer = omega arith; same = λ p d l. refl }

module _ {K : Type 0} (ks : List K) (k : K) where
  pub kept_push : Kept ks (ks ++ (k ∷ []))
  kept_push = record { longer = omega (arith, length_push ks k); same = λ p d l. get_or_append_left ks (k ∷ []) d p l }

  pub stands_push : Stands (ks ++ (k ∷ [])) k (length ks)
  stands_push = record { within = omega (arith, length_push ks k); here = λ d. get_or_push ks k d (length ks) refl }

  -- what holds of each old place, and of the new one, holds of each
  pub places_push : (P : ℕ → K → Type 0) → ((i : ℕ) (d : K) → i < length ks → P i (get_or ks i d)) → P (length ks) k → (i : ℕ) (d : K) → i < length (ks ++ (k ∷ [])) → P i (get_or (ks ++ (k ∷ [])) i d)
  places_push P old new i d l =
      ⊎_elim (λ (h : i < length ks). subst (P i) (sym (get_or_append_left ks (k ∷ []) d i h)) (old i d h))
      (λ (h : length ks ≤ i).
      let e : length ks ≡ i = omega (arith, length_push ks k) in
      subst (λ j. P j (get_or (ks ++ (k ∷ [])) j d)) e (subst (P (length ks)) (sym (get_or_push ks k d (length ks) refl)) new))
      (cases_lt i (length ks))

  -- what holds of each place with an entry more held of each before
  pub places_front : (P : ℕ → K → Type 0) → ((i : ℕ) (d : K) → i < length (ks ++ (k ∷ [])) → P i (get_or (ks ++ (k ∷ [])) i d)) → (i : ℕ) (d : K) → i < length ks → P i (get_or ks i d)
  places_front P all i d l = subst (P i) (get_or_append_left ks (k ∷ []) d i l) (all i d (omega (arith, length_push ks k)))

  pub places_last : (P : ℕ → K → Type 0) → ((i : ℕ) (d : K) → i < length (ks ++ (k ∷ [])) → P i (get_or (ks ++ (k ∷ [])) i d)) → P (length ks) k
  places_last P all = subst (P (length ks)) (get_or_push ks k k (length ks) refl) (all (length ks) k (omega (arith, length_push ks k)))

  pub only_push : Absent ks k → Only (ks ++ (k ∷ [])) k (length ks)
  only_push absent = places_push (λ i x. x ≡ k → i ≡ length ks) (λ i d l e. absurd (absent i d l e)) (λ e. refl)

  pub apart_push : Apart ks → Absent ks k → Apart (ks ++ (k ∷ []))
  apart_push apart absent i j d l m e =
      let n : i < length ks = omega (arith, length_push ks k) in
      places_push (λ q x. i < q → get_or ks i d ≡ x → ⊥) (λ q c h o f. apart i q d o h (f ∙ get_or_default ks q c d h)) (λ o f. absent i d n f)
      j d m l (sym (get_or_append_left ks (k ∷ []) d i n) ∙ e)

  pub apart_front : Apart (ks ++ (k ∷ [])) → Apart ks
  apart_front apart i j d l m e =
      apart i j d l (omega (arith, length_push ks k))
      (get_or_append_left ks (k ∷ []) d i (omega arith) ∙ e ∙ sym (get_or_append_left ks (k ∷ []) d j m))

  pub apart_last : Apart (ks ++ (k ∷ [])) → Absent ks k
  apart_last apart i d l e =
      apart i (length ks) d l (omega (arith, length_push ks k))
      (get_or_append_left ks (k ∷ []) d i l ∙ e ∙ sym (get_or_push ks k d (length ks) refl))
