-- What is kept of a list.
use Rattle.std.proofs.Common.{◌≡◌, ℕ, Bool, true, false, cond, ◌&&◌, eqb, List, [], ◌∷◌, ◌++◌, map, filter, refl, ap, ◌∙◌, arith}
use Rattle.std.specs.List.{AllByRecursion}
use Rattle.std.proofs.lemmas.Bool.{eqb-true, cond_both}
use Rattle.families.specs.Sets.{has}

pub has_kept : (p : ℕ → Bool) (xs : List ℕ) (n : ℕ) → has (filter p xs) n ≡ (has xs n && p n)
has_kept p [] n = refl
has_kept p (x ∷ xs) n =
    let e = has_kept p xs n in
    let q : eqb n x ≡ true → p n ≡ p x = λ h. ap p (eqb-true n x h) in
    cond_both (p x) (x ∷ filter p xs) (filter p xs) (λ ys. has ys n ≡ (has (x ∷ xs) n && p n)) (λ h. grind arith) (λ h. grind arith)

pub kept_same : (p q : ℕ → Bool) (xs : List ℕ) → AllByRecursion (λ n. p n ≡ q n) xs → filter p xs ≡ filter q xs
kept_same p q [] a = refl
kept_same p q (x ∷ xs) a = ap (λ z. cond z (x ∷ filter p xs) (filter p xs)) a.0 ∙ ap (λ z. cond (q x) (x ∷ z) z) (kept_same p q xs a.1)

pub kept_all : (p : ℕ → Bool) (xs : List ℕ) → AllByRecursion (λ n. p n ≡ true) xs → filter p xs ≡ xs
kept_all p [] a = refl
kept_all p (x ∷ xs) a = ap (λ z. cond z (x ∷ filter p xs) (filter p xs)) a.0 ∙ ap (λ z. x ∷ z) (kept_all p xs a.1)

pub kept_none : (p : ℕ → Bool) (xs : List ℕ) → AllByRecursion (λ n. p n ≡ false) xs → filter p xs ≡ []
kept_none p [] a = refl
kept_none p (x ∷ xs) a = ap (λ z. cond z (x ∷ filter p xs) (filter p xs)) a.0 ∙ kept_none p xs a.1

pub kept_map : (p : ℕ → Bool) (f : ℕ → ℕ) (xs : List ℕ) → filter p (map f xs) ≡ map f (filter (λ n. p (f n)) xs)
kept_map p f [] = refl
kept_map p f (x ∷ xs) = ap (λ z. cond (p (f x)) (f x ∷ z) z) (kept_map p f xs) ∙ split (p (f x))
  where
    split : (b : Bool) → cond b (f x ∷ map f (filter (λ n. p (f n)) xs)) (map f (filter (λ n. p (f n)) xs)) ≡ map f (cond b (x ∷ filter (λ n. p (f n)) xs) (filter (λ n. p (f n)) xs))
    split true = refl
    split false = refl

pub kept_kept : (p q : ℕ → Bool) (xs : List ℕ) → filter p (filter q xs) ≡ filter (λ n. q n && p n) xs
kept_kept p q [] = refl
kept_kept p q (x ∷ xs) = split (q x) ∙ ap (λ z. cond (q x && p x) (x ∷ z) z) (kept_kept p q xs)
  where
    split : (b : Bool) → filter p (cond b (x ∷ filter q xs) (filter q xs)) ≡ cond (b && p x) (x ∷ filter p (filter q xs)) (filter p (filter q xs))
    split true = refl
    split false = refl

pub map_same : (f g : ℕ → ℕ) (xs : List ℕ) → AllByRecursion (λ n. f n ≡ g n) xs → map f xs ≡ map g xs
map_same f g [] a = refl
map_same f g (x ∷ xs) a = ap (λ z. z ∷ map f xs) a.0 ∙ ap (λ z. g x ∷ z) (map_same f g xs a.1)

pub map_map : (f g : ℕ → ℕ) (xs : List ℕ) → map f (map g xs) ≡ map (λ n. f (g n)) xs
map_map f g [] = refl
map_map f g (x ∷ xs) = ap (λ z. f (g x) ∷ z) (map_map f g xs)

pub map_append : (f : ℕ → ℕ) (xs ys : List ℕ) → map f (xs ++ ys) ≡ map f xs ++ map f ys
map_append f [] ys = refl
map_append f (x ∷ xs) ys = ap (λ z. f x ∷ z) (map_append f xs ys)

pub map_itself : (f : ℕ → ℕ) (xs : List ℕ) → AllByRecursion (λ n. f n ≡ n) xs → map f xs ≡ xs
map_itself f [] a = refl
map_itself f (x ∷ xs) a = ap (λ z. z ∷ map f xs) a.0 ∙ ap (λ z. x ∷ z) (map_itself f xs a.1)
