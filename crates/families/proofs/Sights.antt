-- What is seen of a question is its answer.
use Rattle.std.proofs.Common.{◌≡◌, ℕ, suc, ◌+◌, ◌-◌, ◌<◌, min, true, false, cond, not, ◌&&◌, ◌||◌, eqb, ltb, ◌++◌, map, filter, sym, refl, ap, ◌∙◌, subst, ⊎_elim, append-nil, arith}
use Rattle.std.proofs.lemmas.Bool.{eqb-true, eqb-false, ltb-true, ltb-false, or_cases, or_parts, or_left, or_right, and_parts, and_left, and_right, cond_both, eq-eqb, false≢true}
use Rattle.std.proofs.ByRecursion.{All-weaker}
use Rattle.families.specs.Groups.{weight, holds}
use Rattle.families.specs.Trees.{Tree, none, always, node, passes, groups, lists, is_none, is_always, equal}
use Rattle.families.specs.Good.{Fits, Good}
use Rattle.families.specs.Questions.{either, both, less, turn, off, on, seen, opens, top, low_at, high_at, split_at, sight}
use Rattle.families.specs.Meanings.{Less, Off, On}
use Rattle.families.specs.Leads.{Sees, SightRight}
use Rattle.families.proofs.Bools.{false_or, or_false, or_same, true_and, and_true, and_same}
use Rattle.families.proofs.Weights.{holds_zero, holds_first, holds_below}
use Rattle.families.proofs.Listing.{each_all, groups_below, lists_above}
use Rattle.families.proofs.Passing.{passes_above, lists_self, node_empty}
use Rattle.families.proofs.Kept.{kept_all, kept_none, map_map, map_itself}
use Rattle.families.proofs.Parts.{kept_node, good_from, good_top}

pub none_is : (t : Tree) → is_none t ≡ true → t ≡ none
none_is none e = refl
none_is always e = absurd (false≢true e)
none_is (node v a c) e = absurd (false≢true e)

pub always_is : (t : Tree) → is_always t ≡ true → t ≡ always
always_is none e = absurd (false≢true e)
always_is always e = refl
always_is (node v a c) e = absurd (false≢true e)

pub equal_is : (s t : Tree) → equal s t ≡ true → s ≡ t
equal_is none none e = refl
equal_is none always e = absurd (false≢true e)
equal_is none (node w c d) e = absurd (false≢true e)
equal_is always none e = absurd (false≢true e)
equal_is always always e = refl
equal_is always (node w c d) e = absurd (false≢true e)
equal_is (node v a b) none e = absurd (false≢true e)
equal_is (node v a b) always e = absurd (false≢true e)
equal_is (node v a b) (node w c d) e =
    let p = and_parts (eqb v w) (equal a c && equal b d) e in
    let q = and_parts (equal a c) (equal b d) p.1 in
    let x = eqb-true v w p.0 in
    let y = equal_is a c q.0 in
    let z = equal_is b d q.1 in
    cc

pub equal_self : (t : Tree) → equal t t ≡ true
equal_self none = refl
equal_self always = refl
equal_self (node v a b) = let x = eq-eqb v v refl in let y = equal_self a in let z = equal_self b in grind arith

-- what is neither none nor always has a top
pub top_fits : (b : ℕ) (t : Tree) → Good b t → is_none t ≡ false → is_always t ≡ false → Fits b (top t)
top_fits b none k p q = absurd (false≢true (sym p))
top_fits b always k p q = absurd (false≢true (sym q))
top_fits b (node v a c) k p q = k.fits

smaller_fits : (b : ℕ) (f g : Tree) → Fits b (top f) → Fits b (top g) → Fits b (min (top f) (top g))
smaller_fits b f g p q = omega arith

-- only always passes the empty group
pub empty_fails : (b : ℕ) (t : Tree) → Good b t → is_always t ≡ false → passes t (λ n. false) ≡ false
empty_fails b none k e = refl
empty_fails b always k e = absurd (false≢true (sym e))
empty_fails b (node v a c) k e = node_empty b v a c k

module _ (b : ℕ) (f g : Tree) (kf : Good b f) (kg : Good b g) where
  either_sees : Sees b (either f g) (sight (either f g))
  unfolding sight split_at
  either_sees = cond_both (is_none f) (seen g) (cond (is_none g) (seen f) (cond (is_always f || is_always g) (seen always) (cond (equal f g) (seen f) opens))) (Sees b (either f g))
      (λ e. record { good = kg; asks = λ s. false_or (passes f s) (passes g s) (ap (λ z. passes z s) (none_is f e)) })
      (λ e. cond_both (is_none g) (seen f) (cond (is_always f || is_always g) (seen always) (cond (equal f g) (seen f) opens)) (Sees b (either f g))
      (λ e'. record { good = kf; asks = λ s. or_false (passes f s) (passes g s) (ap (λ z. passes z s) (none_is g e')) })
      (λ e'. cond_both (is_always f || is_always g) (seen always) (cond (equal f g) (seen f) opens) (Sees b (either f g))
      (λ e''. record {
        good = tt;
        asks = λ s. ⊎_elim
            (λ d. sym (or_left (passes f s) (passes g s) (ap (λ z. passes z s) (always_is f d))))
            (λ d. sym (or_right (passes f s) (passes g s) (ap (λ z. passes z s) (always_is g d))))
            (or_cases (is_always f) (is_always g) e'');
      })
      (λ e''. cond_both (equal f g) (seen f) opens (Sees b (either f g))
      (λ d. record { good = kf; asks = λ s. or_same (passes f s) (passes g s) (ap (λ z. passes z s) (equal_is f g d)) })
      (λ d. let a = or_parts (is_always f) (is_always g) e'' in (smaller_fits b f g (top_fits b f kf e a.0) (top_fits b g kg e' a.1), tt)))))

  both_sees : Sees b (both f g) (sight (both f g))
  unfolding sight split_at
  both_sees = cond_both (is_none f || is_none g) (seen none) (cond (is_always f) (seen g) (cond (is_always g) (seen f) (cond (equal f g) (seen f) opens))) (Sees b (both f g))
      (λ e. record {
        good = tt;
        asks = λ s. ⊎_elim
            (λ d. sym (and_left (passes f s) (passes g s) (ap (λ z. passes z s) (none_is f d))))
            (λ d. sym (and_right (passes f s) (passes g s) (ap (λ z. passes z s) (none_is g d))))
            (or_cases (is_none f) (is_none g) e);
      })
      (λ e. cond_both (is_always f) (seen g) (cond (is_always g) (seen f) (cond (equal f g) (seen f) opens)) (Sees b (both f g))
      (λ e'. record { good = kg; asks = λ s. true_and (passes f s) (passes g s) (ap (λ z. passes z s) (always_is f e')) })
      (λ e'. cond_both (is_always g) (seen f) (cond (equal f g) (seen f) opens) (Sees b (both f g))
      (λ e''. record { good = kf; asks = λ s. and_true (passes f s) (passes g s) (ap (λ z. passes z s) (always_is g e'')) })
      (λ e''. cond_both (equal f g) (seen f) opens (Sees b (both f g))
      (λ d. record { good = kf; asks = λ s. and_same (passes f s) (passes g s) (ap (λ z. passes z s) (equal_is f g d)) })
      (λ d. let a = or_parts (is_none f) (is_none g) e in (smaller_fits b f g (top_fits b f kf a.0 e') (top_fits b g kg a.1 e''), tt)))))

  -- where no group of f passes g, and where each does
  keeps_all : ((n : ℕ) → lists f n ≡ true → passes g (holds n) ≡ false) → Less b f g f
  keeps_all h = record { good = kf; listed = sym (kept_all (λ n. not (passes g (holds n))) (groups f) (each_all (λ n. not (passes g (holds n)) ≡ true) (groups f) (λ n e. ap not (h n e)))) }

  keeps_none : ((n : ℕ) → lists f n ≡ true → passes g (holds n) ≡ true) → Less b f g none
  keeps_none h = record { good = tt; listed = sym (kept_none (λ n. not (passes g (holds n))) (groups f) (each_all (λ n. not (passes g (holds n)) ≡ false) (groups f) (λ n e. ap not (h n e)))) }

  less_sees : Sees b (less f g) (sight (less f g))
  unfolding sight split_at
  less_sees = cond_both (is_none f) (seen none) (cond (is_none g) (seen f) (cond (is_always g) (seen none) (cond (is_always f) (seen f) (cond (equal f g) (seen none) opens)))) (Sees b (less f g))
      (λ e. keeps_none (λ n h. absurd (false≢true (sym (ap (λ z. lists z n) (none_is f e)) ∙ h))))
      (λ e. cond_both (is_none g) (seen f) (cond (is_always g) (seen none) (cond (is_always f) (seen f) (cond (equal f g) (seen none) opens))) (Sees b (less f g))
      (λ e'. keeps_all (λ n h. ap (λ z. passes z (holds n)) (none_is g e')))
      (λ e'. cond_both (is_always g) (seen none) (cond (is_always f) (seen f) (cond (equal f g) (seen none) opens)) (Sees b (less f g))
      (λ e''. keeps_none (λ n h. ap (λ z. passes z (holds n)) (always_is g e'')))
      (λ e''. cond_both (is_always f) (seen f) (cond (equal f g) (seen none) opens) (Sees b (less f g))
      (λ d. keeps_all (λ n h. empty_only n (sym (ap (λ z. lists z n) (always_is f d)) ∙ h) e''))
      (λ d. cond_both (equal f g) (seen none) opens (Sees b (less f g))
      (λ d'. keeps_none (λ n h. ap (λ z. passes z (holds n)) (sym (equal_is f g d')) ∙ lists_self b f n kf h))
      (λ d'. (smaller_fits b f g (top_fits b f kf e d) (top_fits b g kg e' e''), tt))))))
    where
      empty_only : (n : ℕ) → lists always n ≡ true → is_always g ≡ false → passes g (holds n) ≡ false
      empty_only n h e = ⊎_elim
          (λ d. ap (λ z. passes g (holds z)) (eqb-true n 0 d) ∙ passes_above b g (holds 0) (λ n. false) kg (λ v p. holds_zero v) ∙ empty_fails b g kg e)
          (λ d. absurd (false≢true d))
          (or_cases (eqb n 0) false h)

module _ (b : ℕ) (f : Tree) (k : Good b f) where
  turn_sees : Sees b (turn f) (sight (turn f))
  unfolding sight split_at
  turn_sees = cond_both (is_none f) (seen always) (cond (is_always f) (seen none) opens) (Sees b (turn f))
      (λ e. record { good = tt; asks = λ s. sym (ap (λ z. not (passes z (λ n. not (s n)))) (none_is f e)) })
      (λ e. cond_both (is_always f) (seen none) opens (Sees b (turn f))
      (λ d. record { good = tt; asks = λ s. sym (ap (λ z. not (passes z (λ n. not (s n)))) (always_is f d)) })
      (λ d. (top_fits b f k e d, tt)))

-- the tests of off and on: u is before every member of the tree
past : (b u : ℕ) (f : Tree) → Good b f → (is_none f || is_always f || ltb u (top f)) ≡ true → (n : ℕ) → lists f n ≡ true → holds n u ≡ false
past b u none k e n h = absurd (false≢true h)
past b u always k e n h = ⊎_elim (λ d. ap (λ z. holds z u) (eqb-true n 0 d) ∙ holds_zero u) (λ d. absurd (false≢true d)) (or_cases (eqb n 0) false h)
past b u (node v a c) k e n h = lists_above (suc u) (node v a c) n u (good_top (suc u) b (node v a c) (ltb-true u v e) k) h (omega arith)

off_here : (b v : ℕ) (a c : Tree) → Good b (node v a c) → Off b (node v a c) v a
off_here b v a c k = record {
  good = good_from b (suc v) a (omega arith) k.low;
  listed = sym (kept_node (λ n. not (holds n v)) v a c
      ∙ ap (λ z. map (λ n. weight v + n) z ++ filter (λ n. not (holds n v)) (groups a)) (kept_none (λ n. not (holds (weight v + n) v)) (groups c)
      (All-weaker (λ n. n < weight v) (λ n. not (holds (weight v + n) v) ≡ false) (λ n p. ap not (holds_first n v k.fits.1 p)) (groups c) (groups_below v c k.high)))
      ∙ kept_all (λ n. not (holds n v)) (groups a) (All-weaker (λ n. n < weight v) (λ n. not (holds n v) ≡ true) (λ n p. ap not (holds_below n v p)) (groups a) (groups_below v a k.low)));
}

on_here : (b v : ℕ) (a c : Tree) → Good b (node v a c) → On b (node v a c) v c
on_here b v a c k = record {
  good = good_from b (suc v) c (omega arith) k.high;
  listed = sym (ap (map (λ n. n - weight v)) (kept_node (λ n. holds n v) v a c
      ∙ ap (λ z. map (λ n. weight v + n) z ++ filter (λ n. holds n v) (groups a)) (kept_all (λ n. holds (weight v + n) v) (groups c)
      (All-weaker (λ n. n < weight v) (λ n. holds (weight v + n) v ≡ true) (λ n p. holds_first n v k.fits.1 p) (groups c) (groups_below v c k.high)))
      ∙ ap (λ z. map (λ n. weight v + n) (groups c) ++ z) (kept_none (λ n. holds n v) (groups a) (All-weaker (λ n. n < weight v) (λ n. holds n v ≡ false) (λ n p. holds_below n v p) (groups a) (groups_below v a k.low)))
      ∙ append-nil (map (λ n. weight v + n) (groups c)))
      ∙ map_map (λ n. n - weight v) (λ n. weight v + n) (groups c)
      ∙ map_itself (λ n. (weight v + n) - weight v) (groups c) (each_all (λ n. (weight v + n) - weight v ≡ n) (groups c) (λ n e. omega arith)));
}

module _ (b u : ℕ) (f : Tree) (k : Good b f) where
  opens_ahead : (is_none f || is_always f || ltb u (top f)) ≡ false → eqb u (top f) ≡ false → Fits b (top f) × (top f < u)
  opens_ahead e d =
      let p = or_parts (is_none f || is_always f) (ltb u (top f)) e in
      let q = or_parts (is_none f) (is_always f) p.0 in
      let l = ltb-false u (top f) p.1 in
      let m = eqb-false u (top f) d in
      (top_fits b f k q.0 q.1, omega arith)

  off_sees : Sees b (off f u) (sight (off f u))
  unfolding sight split_at
  off_sees = cond_both (is_none f || is_always f || ltb u (top f)) (seen f) (cond (eqb u (top f)) (seen (low_at u f)) opens) (Sees b (off f u))
      (λ e. record { good = k; listed = sym (kept_all (λ n. not (holds n u)) (groups f) (each_all (λ n. not (holds n u) ≡ true) (groups f) (λ n h. ap not (past b u f k e n h)))) })
      (λ e. cond_both (eqb u (top f)) (seen (low_at u f)) opens (Sees b (off f u)) (λ d. here f k e (eqb-true u (top f) d)) (λ d. opens_ahead e d))
    where
      here : (t : Tree) → Good b t → (is_none t || is_always t || ltb u (top t)) ≡ false → u ≡ top t → Off b t u (low_at u t)
      here none m e d = absurd (false≢true (sym e))
      here always m e d = absurd (false≢true (sym e))
      here (node v a c) m e d = subst (λ z. Off b (node v a c) z (cond (eqb z v) a (node v a c))) (sym d)
          (subst (λ z. Off b (node v a c) v (cond z a (node v a c))) (sym (eq-eqb v v refl)) (off_here b v a c m))

  on_sees : Sees b (on f u) (sight (on f u))
  unfolding sight split_at
  on_sees = cond_both (is_none f || is_always f || ltb u (top f)) (seen none) (cond (eqb u (top f)) (seen (high_at u f)) opens) (Sees b (on f u))
      (λ e. record { good = tt; listed = sym (ap (map (λ n. n - weight u)) (kept_none (λ n. holds n u) (groups f) (each_all (λ n. holds n u ≡ false) (groups f) (past b u f k e)))) })
      (λ e. cond_both (eqb u (top f)) (seen (high_at u f)) opens (Sees b (on f u)) (λ d. here f k e (eqb-true u (top f) d)) (λ d. opens_ahead e d))
    where
      here : (t : Tree) → Good b t → (is_none t || is_always t || ltb u (top t)) ≡ false → u ≡ top t → On b t u (high_at u t)
      here none m e d = absurd (false≢true (sym e))
      here always m e d = absurd (false≢true (sym e))
      here (node v a c) m e d = subst (λ z. On b (node v a c) z (cond (eqb z v) c none)) (sym d)
          (subst (λ z. On b (node v a c) v (cond z c none)) (sym (eq-eqb v v refl)) (on_here b v a c m))

pub sight_right : SightRight
sight_right b (either f g) k = either_sees b f g k.0 k.1
sight_right b (both f g) k = both_sees b f g k.0 k.1
sight_right b (less f g) k = less_sees b f g k.0 k.1
sight_right b (turn f) k = turn_sees b f k
sight_right b (off f u) k = off_sees b u f k
sight_right b (on f u) k = on_sees b u f k
