-- Laws of lists without repetitions. Assumes nothing.
use Rattle.std.proofs.Common.{◌≡◌, ◌+◌, ◌≤◌, Bool, true, false, List, [], ◌∷◌, length, sym, refl, ◌∙◌, subst, inl, inr, ⊎_elim, arith}
use Rattle.std.proofs.lemmas.Bool.{or_cases, or_left, or_right, cases_Bool, both_ways, cond-true, cond-false}
use Rattle.interning.specs.Distinct.{Exact, ◌∈◌, Within, NoRepeat, among, distinct, Distinguishes, Counted, Counts}

-- the list without one occurrence of an entry
cut : {A : Type 0} (x : A) (ys : List A) → x ∈ ys → List A
cut x [] m = []
cut x (y ∷ ys) (inl e) = ys
cut x (y ∷ ys) (inr m) = y ∷ cut x ys m

length_cut : {A : Type 0} (x : A) (ys : List A) (m : x ∈ ys) → length ys ≡ length (cut x ys m) + 1
unfolding cut
length_cut x [] m = absurd m
length_cut x (y ∷ ys) (inl e) = omega arith
length_cut x (y ∷ ys) (inr m) = omega (arith, length_cut x ys m)

cut_keeps : {A : Type 0} (x : A) (ys : List A) (m : x ∈ ys) (z : A) → (z ≡ x → ⊥) → z ∈ ys → z ∈ cut x ys m
unfolding cut
cut_keeps x [] m z ne h = absurd m
cut_keeps x (y ∷ ys) (inl e) z ne (inl f) = absurd (ne (f ∙ sym e))
cut_keeps x (y ∷ ys) (inl e) z ne (inr h) = h
cut_keeps x (y ∷ ys) (inr m) z ne (inl f) = inl f
cut_keeps x (y ∷ ys) (inr m) z ne (inr h) = inr (cut_keeps x ys m z ne h)

-- a list without repetitions is no longer than one that has all its entries
pub no_longer : {A : Type 0} (xs ys : List A) → NoRepeat xs → Within xs ys → length xs ≤ length ys
no_longer [] ys once within = omega arith
no_longer (x ∷ xs) ys once within =
    let m = within x (inl refl) in
    let rest : Within xs (cut x ys m) = λ z h. cut_keeps x ys m z (λ e. once.0 (subst (λ w. w ∈ xs) e h)) (within z (inr h)) in
    omega (arith, length_cut x ys m, no_longer xs (cut x ys m) once.1 rest)

-- two lists without repetitions and with the same entries are equally long
pub same_length : {A : Type 0} (xs ys : List A) → NoRepeat xs → NoRepeat ys → Within xs ys → Within ys xs → length xs ≡ length ys
same_length xs ys once once' there back = omega (arith, no_longer xs ys once there, no_longer ys xs once' back)

module _ {A : Type 0} {same : A → A → Bool} (exact : Exact same) where
  pub among_in : (x : A) (ys : List A) → among same x ys ≡ true → x ∈ ys
  unfolding among
  among_in x [] e = absurd (both_ways false refl e)
  among_in x (y ∷ ys) e = ⊎_elim (λ s. inl ((exact x y).0 s)) (λ r. inr (among_in x ys r)) (or_cases (same x y) (among same x ys) e)

  pub in_among : (x : A) (ys : List A) → x ∈ ys → among same x ys ≡ true
  unfolding among
  in_among x [] m = absurd m
  in_among x (y ∷ ys) (inl e) = or_left (same x y) (among same x ys) ((exact x y).1 e)
  in_among x (y ∷ ys) (inr m) = or_right (same x y) (among same x ys) (in_among x ys m)

  -- an entry that is told twice is dropped, and one that is told once is kept
  distinct_dropped : (x : A) (xs : List A) → among same x xs ≡ true → distinct same (x ∷ xs) ≡ distinct same xs
  unfolding distinct
  distinct_dropped x xs e = cond-true (among same x xs) (distinct same xs) (x ∷ distinct same xs) e

  distinct_kept : (x : A) (xs : List A) → among same x xs ≡ false → distinct same (x ∷ xs) ≡ x ∷ distinct same xs
  unfolding distinct
  distinct_kept x xs e = cond-false (among same x xs) (distinct same xs) (x ∷ distinct same xs) e

  pub distinct_keeps : (xs : List A) → Within xs (distinct same xs)
  unfolding distinct
  distinct_keeps [] z m = absurd m
  distinct_keeps (x ∷ xs) z m =
      ⊎_elim
      (λ (t : among same x xs ≡ true).
      subst (λ ys. z ∈ ys) (sym (distinct_dropped x xs t))
      (distinct_keeps xs z (⊎_elim (λ (e : z ≡ x). subst (λ w. w ∈ xs) (sym e) (among_in x xs t)) (λ h. h) m)))
      (λ (f : among same x xs ≡ false).
      subst (λ ys. z ∈ ys) (sym (distinct_kept x xs f)) (⊎_elim (λ (e : z ≡ x). inl e) (λ h. inr (distinct_keeps xs z h)) m))
      (cases_Bool (among same x xs))

  pub distinct_adds_none : (xs : List A) → Within (distinct same xs) xs
  unfolding distinct
  distinct_adds_none [] z m = absurd m
  distinct_adds_none (x ∷ xs) z m =
      ⊎_elim
      (λ (t : among same x xs ≡ true). inr (distinct_adds_none xs z (subst (λ ys. z ∈ ys) (distinct_dropped x xs t) m)))
      (λ (f : among same x xs ≡ false). ⊎_elim (λ (e : z ≡ x). inl e) (λ h. inr (distinct_adds_none xs z h)) (subst (λ ys. z ∈ ys) (distinct_kept x xs f) m))
      (cases_Bool (among same x xs))

  pub distinct_once : (xs : List A) → NoRepeat (distinct same xs)
  unfolding distinct
  distinct_once [] = tt
  distinct_once (x ∷ xs) =
      ⊎_elim
      (λ (t : among same x xs ≡ true). subst NoRepeat (sym (distinct_dropped x xs t)) (distinct_once xs))
      (λ (f : among same x xs ≡ false).
      subst NoRepeat (sym (distinct_kept x xs f))
      ((λ m. both_ways (among same x xs) f (in_among x xs (distinct_adds_none xs x m))), distinct_once xs))
      (cases_Bool (among same x xs))

  module _ (xs ys : List A) (once : NoRepeat xs) (within : Within xs ys) where
    no_longer_distinct : length xs ≤ length (distinct same ys)
    no_longer_distinct = no_longer xs (distinct same ys) once (λ z m. distinct_keeps ys z (within z m))

    -- how a list without repetitions counts the different entries of another
    pub counted : Counted same xs ys
    counted = record {
      within = no_longer_distinct;
      all = λ back. omega (arith, no_longer_distinct, no_longer (distinct same ys) xs (distinct_once ys) (λ z m. back z (distinct_adds_none ys z m)));
      lacks = λ x m absent.
          let one_more : Within (x ∷ xs) (distinct same ys) = λ z n. distinct_keeps ys z (⊎_elim (λ (e : z ≡ x). subst (λ w. w ∈ ys) (sym e) m) (λ h. within z h) n) in
          omega (arith, no_longer (x ∷ xs) (distinct same ys) (absent, once) one_more);
    }

pub distinguishes : (A : Type 0) → Distinguishes A
distinguishes A same exact xs = (distinct_keeps exact xs, distinct_adds_none exact xs, distinct_once exact xs)

pub counts : (A : Type 0) → Counts A
counts A same exact = counted exact
