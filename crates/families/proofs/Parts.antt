-- An operand and its two parts at a member; a tree built over two parts.
use Rattle.std.proofs.Common.{◌≡◌, ℕ, suc, ◌+◌, ◌<◌, ◌≤◌, Bool, true, false, cond, ◌&&◌, ◌||◌, eqb, ◌++◌, map, filter, sym, refl, ap, ◌∙◌, subst, arith}
use Rattle.std.proofs.lemmas.Bool.{eqb-true, eqb-false, both_ways}
use Rattle.std.proofs.lemmas.List.Elements.{filter-append}
use Rattle.families.specs.Groups.{weight, holds}
use Rattle.families.specs.Trees.{Tree, none, always, node, build, passes, groups, lists}
use Rattle.families.specs.Good.{Apart, Fits, Good}
use Rattle.families.specs.Questions.{top, low_at, high_at}
use Rattle.families.proofs.Bools.{refute}
use Rattle.families.proofs.Listing.{each_all, all_each}
use Rattle.families.proofs.Passing.{lists_passes, passes_lists}
use Rattle.families.proofs.Kept.{kept_map}

pub good_from : (a b : ℕ) (t : Tree) → a ≤ b → Good b t → Good a t
good_from a b none p k = tt
good_from a b always p k = tt
good_from a b (node v l h) p k = record { fits = omega arith; low = k.low; high = k.high; some = k.some; apart = k.apart }

-- a tree whose top is from a on is good from a on
pub good_top : (a b : ℕ) (t : Tree) → a ≤ top t → Good b t → Good a t
good_top a b none p k = tt
good_top a b always p k = tt
good_top a b (node v l h) p k = record { fits = omega arith; low = k.low; high = k.high; some = k.some; apart = k.apart }

or_none : (l b : Bool) → l ≡ (l || (b && false))
or_none l b = grind arith

pub build_asks : (v : ℕ) (l h : Tree) (g : ℕ → Bool) → passes (build v l h) g ≡ passes (node v l h) g
build_asks v l none g = or_none (passes l g) (g v)
build_asks v l always g = refl
build_asks v l (node w a c) g = refl

pub build_listed : (v : ℕ) (l h : Tree) → groups (build v l h) ≡ groups (node v l h)
build_listed v l none = refl
build_listed v l always = refl
build_listed v l (node w a c) = refl

-- what is kept of the groups of a node
pub kept_node : (p : ℕ → Bool) (v : ℕ) (l h : Tree) → filter p (groups (node v l h)) ≡ map (λ n. weight v + n) (filter (λ n. p (weight v + n)) (groups h)) ++ filter p (groups l)
kept_node p v l h = filter-append p (map (λ n. weight v + n) (groups h)) (groups l) ∙ ap (λ z. z ++ filter p (groups l)) (kept_map p (λ n. weight v + n) (groups h))

pub build_good : (b v : ℕ) (l h : Tree) → Fits b v → Good (suc v) l → Good (suc v) h → Apart l h → Good b (build v l h)
build_good b v l none p k m a = good_from b (suc v) l (omega arith) k
build_good b v l always p k m a = record { fits = p; low = k; high = m; some = refl; apart = a }
build_good b v l (node w c d) p k m a = record { fits = p; low = k; high = m; some = refl; apart = a }

-- F is a node of v over F0 and F1, which are good above v
pub record Splits (v : ℕ) (F F0 F1 : Tree) : Type 0 where
  pub low : Good (suc v) F0
  pub high : Good (suc v) F1
  pub apart : Apart F0 F1
  pub asks : (g : ℕ → Bool) → passes F g ≡ passes (node v F0 F1) g
  pub listed : groups F ≡ groups (node v F0 F1)

splits_here : (b v : ℕ) (l h : Tree) → Good b (node v l h) → Splits v (node v l h) l h
splits_here b v l h k = record { low = k.low; high = k.high; apart = k.apart; asks = λ g. refl; listed = refl }

splits_past : (v : ℕ) (t : Tree) → Good (suc v) t → Splits v t t none
splits_past v t k = record { low = k; high = tt; apart = tt; asks = λ g. or_none (passes t g) (g v); listed = refl }

pub splits : (b v : ℕ) (t : Tree) → Good b t → v ≤ top t → Splits v t (low_at v t) (high_at v t)
splits b v none k p = splits_past v none tt
splits b v always k p = splits_past v always tt
splits b v (node w a c) k p = here_or_past (eqb v w) refl
  where
    here_or_past : (t : Bool) → eqb v w ≡ t → Splits v (node w a c) (cond t a (node w a c)) (cond t c none)
    here_or_past true e = subst (λ u. Splits u (node w a c) a c) (sym (eqb-true v w e)) (splits_here b w a c k)
    here_or_past false e = let h : v < w = omega (arith, eqb-false v w e) in splits_past v (node w a c) (good_top (suc v) b (node w a c) (omega arith) k)

-- a tree that lists only groups of another passes only what that passes
pub lists_part : (b : ℕ) (s t : Tree) → Good b s → Good b t → ((n : ℕ) → lists s n ≡ true → lists t n ≡ true) → (g : ℕ → Bool) → passes s g ≡ true → passes t g ≡ true
lists_part b s t k m e g h = let r = passes_lists b s g k h in lists_passes b t r.0 g m (e r.0 r.1) r.2

-- parts of parts that are apart are apart
pub apart_part : (b : ℕ) (l h l' h' : Tree) → Good b l → Good b l' → Apart l h → ((n : ℕ) → lists l' n ≡ true → lists l n ≡ true) → ((n : ℕ) → lists h' n ≡ true → lists h n ≡ true) → Apart l' h'
apart_part b l h l' h' k k' a p q = each_all (λ n. passes l' (holds n) ≡ false) (groups h') (λ n e.
    let f = all_each (λ m. passes l (holds m) ≡ false) (groups h) a n (q n e) in
    refute (passes l' (holds n)) (λ t. both_ways (passes l (holds n)) f (lists_part b l' l k' k p (holds n) t)))
