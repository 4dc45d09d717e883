-- The list of a tree's groups.
use Rattle.std.proofs.Common.{◌≡◌, ℕ, zero, suc, ◌+◌, ◌<◌, ◌≤◌, true, false, ◌||◌, eqb, ◌⊎◌, List, [], ◌∷◌, ◌++◌, map, sym, refl, ap, ◌∙◌, inl, inr, ⊎_elim, arith}
use Rattle.std.specs.List.{AllByRecursion}
use Rattle.std.proofs.lemmas.Bool.{eq-eqb, eqb-true, or_cases, or_left, or_right, false≢true}
use Rattle.std.proofs.ByRecursion.{All-append, All-map, All-weaker}
use Rattle.families.specs.Sets.{has}
use Rattle.families.specs.Groups.{weight, holds, Group, Falling}
use Rattle.families.specs.Trees.{Tree, none, always, node, groups, lists, is_none}
use Rattle.families.specs.Good.{Good}
use Rattle.families.proofs.Weights.{weight_pos, weight_step, weight_mono, holds_below}

-- what holds of all of a list, and what holds of each that it has
pub all_each : (P : ℕ → Type 0) (xs : List ℕ) → AllByRecursion P xs → (n : ℕ) → has xs n ≡ true → P n
all_each P [] a n e = absurd (false≢true e)
all_each P (x ∷ xs) a n e = ⊎_elim (λ h. rw (eqb-true n x h) a.0) (λ h. all_each P xs a.1 n h) (or_cases (eqb n x) (has xs n) e)

pub each_all : (P : ℕ → Type 0) (xs : List ℕ) → ((n : ℕ) → has xs n ≡ true → P n) → AllByRecursion P xs
each_all P [] h = tt
each_all P (x ∷ xs) h = (h x (or_left (eqb x x) (has xs x) (eq-eqb x x refl)), each_all P xs (λ n e. h n (or_right (eqb n x) (has xs n) e)))

pub has_append : (xs ys : List ℕ) (n : ℕ) → has (xs ++ ys) n ≡ (has xs n || has ys n)
has_append [] ys n = refl
has_append (x ∷ xs) ys n = let e = has_append xs ys n in grind arith

pub has_map : (f : ℕ → ℕ) (xs : List ℕ) (n : ℕ) → has (map f xs) n ≡ true → (m : ℕ) × (has xs m ≡ true) × (n ≡ f m)
has_map f [] n e = absurd (false≢true e)
has_map f (x ∷ xs) n e = ⊎_elim
    (λ h. (x, or_left (eqb x x) (has xs x) (eq-eqb x x refl), eqb-true n (f x) h))
    (λ h. let r = has_map f xs n h in (r.0, or_right (eqb r.0 x) (has xs r.0) r.1, r.2))
    (or_cases (eqb n (f x)) (has (map f xs) n) e)

pub map_has : (f : ℕ → ℕ) (xs : List ℕ) (m : ℕ) → has xs m ≡ true → has (map f xs) (f m) ≡ true
map_has f [] m e = e
map_has f (x ∷ xs) m e = ⊎_elim
    (λ h. or_left (eqb (f m) (f x)) (has (map f xs) (f m)) (eq-eqb (f m) (f x) (ap f (eqb-true m x h))))
    (λ h. or_right (eqb (f m) (f x)) (has (map f xs) (f m)) (map_has f xs m h))
    (or_cases (eqb m x) (has xs m) e)

pub lists_low : (v : ℕ) (l h : Tree) (n : ℕ) → lists l n ≡ true → lists (node v l h) n ≡ true
lists_low v l h n e = has_append (map (λ m. weight v + m) (groups h)) (groups l) n ∙ or_right (has (map (λ m. weight v + m) (groups h)) n) (lists l n) e

pub lists_high : (v : ℕ) (l h : Tree) (n : ℕ) → lists h n ≡ true → lists (node v l h) (weight v + n) ≡ true
lists_high v l h n e = has_append (map (λ m. weight v + m) (groups h)) (groups l) (weight v + n)
    ∙ or_left (has (map (λ m. weight v + m) (groups h)) (weight v + n)) (lists l (weight v + n)) (map_has (λ m. weight v + m) (groups h) n e)

-- a group of a node is one of low, or one of high with the member
pub lists_cases : (v : ℕ) (l h : Tree) (n : ℕ) → lists (node v l h) n ≡ true → (lists l n ≡ true) ⊎ ((m : ℕ) × (lists h m ≡ true) × (n ≡ weight v + m))
lists_cases v l h n e = ⊎_elim
    (λ p. inr (has_map (λ m. weight v + m) (groups h) n p))
    (λ p. inl p)
    (or_cases (has (map (λ m. weight v + m) (groups h)) n) (lists l n) (sym (has_append (map (λ m. weight v + m) (groups h)) (groups l) n) ∙ e))

-- what is not none has a group
pub some_group : (b : ℕ) (t : Tree) → Good b t → is_none t ≡ false → (n : ℕ) × (lists t n ≡ true)
some_group b none k e = absurd (false≢true (sym e))
some_group b always k e = (0, refl)
some_group b (node v l h) k e = let r = some_group (suc v) h k.high k.some in (weight v + r.0, lists_high v l h r.0 r.1)

pub groups_below : (v : ℕ) (t : Tree) → Good (suc v) t → AllByRecursion (λ n. n < weight v) (groups t)
groups_below v none k = tt
groups_below v always k = (weight_pos v, tt)
groups_below v (node u l h) k =
    let s = weight_step v u k.fits.0 k.fits.1.1 in
    All-append (λ n. n < weight v) (map (λ n. weight u + n) (groups h)) (groups l)
    (All-map (λ n. n < weight v) (λ n. weight u + n) (groups h) (All-weaker (λ n. n < weight u) (λ n. weight u + n < weight v) (λ n p. omega arith) (groups h) (groups_below u h k.high)))
    (All-weaker (λ n. n < weight u) (λ n. n < weight v) (λ n p. omega arith) (groups l) (groups_below u l k.low))

pub lists_below : (v : ℕ) (t : Tree) (n : ℕ) → Good (suc v) t → lists t n ≡ true → n < weight v
lists_below v t n k e = all_each (λ m. m < weight v) (groups t) (groups_below v t k) n e

-- whatever its bound, a good tree has members from 1 on
pub good_member : (b : ℕ) (t : Tree) → Good b t → Good 1 t
good_member b none k = tt
good_member b always k = tt
good_member b (node v l h) k = record { fits = omega arith; low = k.low; high = k.high; some = k.some; apart = k.apart }

-- every group of a tree is a group
pub lists_group : (b : ℕ) (t : Tree) (n : ℕ) → Good b t → lists t n ≡ true → Group n
unfolding weight
lists_group b t n k e = lists_below 0 t n (good_member b t k) e

-- a group has no member below the bound
pub lists_above : (b : ℕ) (t : Tree) (n u : ℕ) → Good b t → lists t n ≡ true → u < b → holds n u ≡ false
lists_above zero t n u k e p = absurd (omega arith)
lists_above (suc w) t n u k e p = let q = lists_below w t n k e in let m = weight_mono u w (omega arith) in holds_below n u (omega arith)

falling_append : (xs ys : List ℕ) (w : ℕ) → Falling xs → Falling ys → AllByRecursion (λ n. w ≤ n) xs → AllByRecursion (λ n. n < w) ys → Falling (xs ++ ys)
falling_append [] ys w f g a b = g
falling_append (x ∷ xs) ys w f g a b =
    (All-append (λ m. m < x) xs ys f.0 (All-weaker (λ n. n < w) (λ n. n < x) (λ n h. let q = a.0 in omega arith) ys b), falling_append xs ys w f.1 g a.1 b)

falling_map : (w : ℕ) (xs : List ℕ) → Falling xs → Falling (map (λ n. w + n) xs)
falling_map w [] f = tt
falling_map w (x ∷ xs) f = (All-map (λ m. m < w + x) (λ n. w + n) xs (All-weaker (λ m. m < x) (λ m. w + m < w + x) (λ m h. omega arith) xs f.0), falling_map w xs f.1)

all_from : (w : ℕ) (xs : List ℕ) → AllByRecursion (λ n. w ≤ n) (map (λ n. w + n) xs)
all_from w [] = tt
all_from w (x ∷ xs) = (omega arith, all_from w xs)

pub groups_falling : (b : ℕ) (t : Tree) → Good b t → Falling (groups t)
groups_falling b none k = tt
groups_falling b always k = (tt, tt)
groups_falling b (node v l h) k = falling_append (map (λ n. weight v + n) (groups h)) (groups l) (weight v)
    (falling_map (weight v) (groups h) (groups_falling (suc v) h k.high)) (groups_falling (suc v) l k.low) (all_from (weight v) (groups h)) (groups_below v l k.low)
