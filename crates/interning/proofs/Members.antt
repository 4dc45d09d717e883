-- The entries of a list, by place and by membership. Assumes nothing.
use Rattle.std.proofs.Common.{◌≡◌, ℕ, zero, suc, ◌<◌, ◌⊎◌, List, [], ◌∷◌, ◌++◌, length, Ok, Err, Result, sym, ◌∙◌, subst, inl, inr, ⊎_elim, arith}
use Rattle.std.proofs.lemmas.List.{get_or_default}
use Rattle.interning.specs.declared.interner.Full.{Full}
use Rattle.interning.specs.Places.{Absent, Stands, Apart}
use Rattle.interning.specs.Interned.{Appended, Interned}
use Rattle.interning.specs.Distinct.{◌∈◌, Within, NoRepeat}

module _ {A : Type 0} where
  pub in_stands : (xs : List A) (x : A) → x ∈ xs → (i : ℕ) × Stands xs x i
  in_stands [] x m = absurd m
  in_stands (y ∷ ys) x (inl e) = (0, record { within = omega arith; here = λ d. sym e })
  in_stands (y ∷ ys) x (inr m) =
      let r = in_stands ys x m in (suc r.0, record { within = omega (arith, r.1.within); here = λ d. r.1.here d })

  pub stands_in : (xs : List A) (x : A) (i : ℕ) → Stands xs x i → x ∈ xs
  stands_in [] x i s = let f : ⊥ = omega (arith, s.within) in absurd f
  stands_in (y ∷ ys) x zero s = inl (sym (s.here x))
  stands_in (y ∷ ys) x (suc i) s = inr (stands_in ys x i (record { within = omega (arith, s.within); here = λ d. s.here d }))

  pub absent_not_in : (xs : List A) (x : A) → Absent xs x → x ∈ xs → ⊥
  absent_not_in xs x absent m = let r = in_stands xs x m in absent r.0 x r.1.within (r.1.here x)

  pub not_in_absent : (xs : List A) (x : A) → (x ∈ xs → ⊥) → Absent xs x
  not_in_absent xs x absent i d l e = absent (stands_in xs x i (record { within = l; here = λ c. get_or_default xs i c d l ∙ e }))

  pub apart_once : (xs : List A) → Apart xs → NoRepeat xs
  apart_once [] apart = tt
  apart_once (x ∷ xs) apart = (
    (λ m. let r = in_stands xs x m in apart 0 (suc r.0) x (omega arith) (omega (arith, r.1.within)) (sym (r.1.here x))),
    apart_once xs (λ i j d l m e. apart (suc i) (suc j) d (omega arith) (omega arith) e),
  )

  pub once_apart : (xs : List A) → NoRepeat xs → Apart xs
  once_apart [] once i j d l m e = omega arith
  once_apart (x ∷ xs) once i zero d l m e = omega arith
  once_apart (x ∷ xs) once zero (suc j) d l m e =
      let h : j < length xs = omega arith in
      once.0 (stands_in xs x j (record { within = h; here = λ c. get_or_default xs j c d h ∙ sym e }))
  once_apart (x ∷ xs) once (suc i) (suc j) d l m e = once_apart xs once.1 i j d (omega arith) (omega arith) e

  pub in_left : (xs ys : List A) → Within xs (xs ++ ys)
  in_left [] ys z m = absurd m
  in_left (x ∷ xs) ys z (inl e) = inl e
  in_left (x ∷ xs) ys z (inr m) = inr (in_left xs ys z m)

  pub in_right : (xs ys : List A) → Within ys (xs ++ ys)
  in_right [] ys z m = m
  in_right (x ∷ xs) ys z m = inr (in_right xs ys z m)

  pub in_either : (xs ys : List A) (z : A) → z ∈ (xs ++ ys) → (z ∈ xs) ⊎ (z ∈ ys)
  in_either [] ys z m = inr m
  in_either (x ∷ xs) ys z (inl e) = inl (inl e)
  in_either (x ∷ xs) ys z (inr m) = ⊎_elim (λ (l : z ∈ xs). inl (inr l)) (λ r. inr r) (in_either xs ys z m)

  -- interning keeps each key
  pub interned_within : (cap : ℕ) (ks : List A) (k : A) (r : Result ℕ Full) (ks' : List A) → Interned cap ks k r ks' → Within ks ks'
  interned_within cap ks k (Ok i) ks' placed =
      ⊎_elim (λ (e : ks' ≡ ks). subst (Within ks) (sym e) (λ z m. m)) (λ (a : Appended cap ks k i ks'). subst (Within ks) (sym a.more) (in_left ks (k ∷ []))) placed.change
  interned_within cap ks k (Err e) ks' refused = subst (Within ks) (sym refused.same) (λ z m. m)

  -- and adds no key but the one that is interned
  pub interned_in : (cap : ℕ) (ks : List A) (k : A) (r : Result ℕ Full) (ks' : List A) → Interned cap ks k r ks' → (z : A) → z ∈ ks' → (z ∈ ks) ⊎ (z ≡ k)
  interned_in cap ks k (Ok i) ks' placed z m =
      ⊎_elim (λ (e : ks' ≡ ks). inl (subst (λ xs. z ∈ xs) e m))
      (λ (a : Appended cap ks k i ks').
      ⊎_elim (λ (h : z ∈ ks). inl h) (⊎_elim (λ (e : z ≡ k). inr e) (λ (f : ⊥). absurd f)) (in_either ks (k ∷ []) z (subst (λ xs. z ∈ xs) a.more m)))
      placed.change
  interned_in cap ks k (Err e) ks' refused z m = inl (subst (λ xs. z ∈ xs) refused.same m)
