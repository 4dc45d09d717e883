-- No group of a tree contains another, so its groups are the smallest that pass.
use Rattle.std.proofs.Common.{◌≡◌, ℕ, suc, ◌+◌, ◌<◌, ◌≤◌, true, false, eqb, ◌↔◌, List, [], ◌∷◌, sym, refl, ap, ◌∙◌, subst, ⊎_elim, arith}
use Rattle.std.specs.List.{AllByRecursion}
use Rattle.std.proofs.lemmas.Bool.{eqb-true, or_cases, or_left, or_right, both_ways, false≢true, ne_eqb, eq-eqb}
use Rattle.families.specs.Sets.{has, Inside}
use Rattle.families.specs.Groups.{Falling, Member, weight, holds, Group}
use Rattle.families.specs.Trees.{groups, Tree, none, always, node, passes, lists}
use Rattle.families.specs.Good.{Good}
use Rattle.families.specs.Kinds.{ListedOnce, Smallest, Passing, PassingListed, GroupsFalling, ListedSmallest}
use Rattle.families.proofs.Bools.{same_tests, only_right}
use Rattle.families.proofs.Weights.{holds_below, holds_first, holds_add}
use Rattle.families.proofs.Numbers.{holds_same}
use Rattle.families.proofs.Listing.{all_each, lists_cases, lists_below, lists_group, groups_falling}
use Rattle.families.proofs.Passing.{lists_passes, passes_lists, lists_self}
use Rattle.families.proofs.Canonical.{good_apart}

-- two groups that contain one another are one
pub inside_both : (m n : ℕ) → Group m → Group n → Inside (holds m) (holds n) → Inside (holds n) (holds m) → m ≡ n
inside_both m n p q a b = holds_same m n p q (λ v. same_tests (holds m v) (holds n v) (a v) (b v))

module _ (v m n : ℕ) (p : Member v) (hm : m < weight v) (hn : n < weight v) where
  -- a member before both can be taken out of both
  pub inside_later : Inside (holds (weight v + m)) (holds (weight v + n)) → Inside (holds m) (holds n)
  inside_later s u h = ⊎_elim
      (λ e. absurd (both_ways (holds m v) (holds_below m v hm) (ap (holds m) (sym (eqb-true u v e)) ∙ h)))
      (λ e. e)
      (or_cases (eqb u v) (holds n u) (sym (holds_add n v u p hn) ∙ s u (holds_add m v u p hm ∙ or_right (eqb u v) (holds m u) h)))

  pub inside_add : Inside (holds m) (holds n) → Inside (holds (weight v + m)) (holds (weight v + n))
  inside_add s u h = holds_add n v u p hn ∙ ⊎_elim
      (λ e. or_left (eqb u v) (holds n u) e)
      (λ e. or_right (eqb u v) (holds n u) (s u e))
      (or_cases (eqb u v) (holds m u) (sym (holds_add m v u p hm) ∙ h))

  -- a group without the member is inside a group with it exactly when it is inside the rest
  pub inside_put : Inside (holds m) (holds n) → Inside (holds m) (holds (weight v + n))
  inside_put s u h = holds_add n v u p hn ∙ or_right (eqb u v) (holds n u) (s u h)

  pub inside_more : Inside (holds m) (holds (weight v + n)) → Inside (holds m) (holds n)
  inside_more s u h = ⊎_elim
      (λ e. absurd (both_ways (holds m v) (holds_below m v hm) (ap (holds m) (sym (eqb-true u v e)) ∙ h)))
      (λ e. e)
      (or_cases (eqb u v) (holds n u) (sym (holds_add n v u p hn) ∙ s u h))

pub lists_apart : (b : ℕ) (t : Tree) → Good b t → (m n : ℕ) → lists t m ≡ true → lists t n ≡ true → Inside (holds m) (holds n) → m ≡ n
lists_apart b none k m n p q s = absurd (false≢true p)
lists_apart b always k m n p q s = ⊎_elim (λ x. ⊎_elim (λ y. eqb-true m 0 x ∙ sym (eqb-true n 0 y)) (λ y. absurd (false≢true y)) (or_cases (eqb n 0) false q)) (λ x. absurd (false≢true x)) (or_cases (eqb m 0) false p)
lists_apart b (node v a c) k m n p q s = ⊎_elim
    (λ x. ⊎_elim
    (λ y. lists_apart (suc v) a k.low m n x y s)
    (λ y.
    let hm = lists_below v a m k.low x in
    let hn = lists_below v c y.0 k.high y.1 in
    let i = inside_more v m y.0 k.fits.1 hm hn (subst (λ z. Inside (holds m) (holds z)) y.2 s) in
    absurd (both_ways (passes a (holds y.0)) (good_apart a c k y.0 y.1) (lists_passes (suc v) a m (holds y.0) k.low x i)))
    (lists_cases v a c n q))
    (λ x. ⊎_elim
    (λ y.
    let hm = lists_below v c x.0 k.high x.1 in
    let hn = lists_below v a n k.low y in
    absurd (both_ways (holds n v) (holds_below n v hn) (s v (ap (λ z. holds z v) x.2 ∙ holds_first x.0 v k.fits.1 hm))))
    (λ y.
    let hm = lists_below v c x.0 k.high x.1 in
    let hn = lists_below v c y.0 k.high y.1 in
    let s' : Inside (holds (weight v + x.0)) (holds (weight v + y.0)) = λ u h. ap (λ z. holds z u) (sym y.2) ∙ s u (ap (λ z. holds z u) x.2 ∙ h) in
    let e = lists_apart (suc v) c k.high x.0 y.0 x.1 y.1 (inside_later v x.0 y.0 k.fits.1 hm hn s') in
    x.2 ∙ ap (λ z. weight v + z) e ∙ sym y.2)
    (lists_cases v a c n q))
    (lists_cases v a c m p)

pub passing_listed : PassingListed
passing_listed t k g = (passes_lists 1 t g k, λ r. lists_passes 1 t r.0 g k r.1 r.2)

pub listed_falling : GroupsFalling
listed_falling t k = groups_falling 1 t k

-- falling lists with the same numbers are one
has_below : (w : ℕ) (xs : List ℕ) (n : ℕ) → AllByRecursion (λ m. m < w) xs → has xs n ≡ true → n < w
has_below w xs n a e = all_each (λ m. m < w) xs a n e

head_below : (x y : ℕ) (ys : List ℕ) → Falling (y ∷ ys) → has (y ∷ ys) x ≡ true → x ≤ y
head_below x y ys f e = ⊎_elim (λ h. let q = eqb-true x y h in omega arith) (λ h. let q = has_below y ys x f.0 h in omega arith) (or_cases (eqb x y) (has ys x) e)

-- what stands in the one list stands in the other, if not as its head
tail_has : (x y : ℕ) (xs ys : List ℕ) → x ≡ y → AllByRecursion (λ m. m < x) xs → ((n : ℕ) → has (x ∷ xs) n ≡ has (y ∷ ys) n) → (n : ℕ) → has xs n ≡ true → has ys n ≡ true
tail_has x y xs ys d a e n h =
    let b = has_below x xs n a h in
    only_right (eqb n y) (has ys n) (ne_eqb n y (λ r. omega arith)) (sym (e n) ∙ or_right (eqb n x) (has xs n) h)

pub falling_same : (xs ys : List ℕ) → Falling xs → Falling ys → ((n : ℕ) → has xs n ≡ has ys n) → xs ≡ ys
falling_same [] [] f g e = refl
falling_same [] (y ∷ ys) f g e = absurd (false≢true (e y ∙ or_left (eqb y y) (has ys y) (eq-eqb y y refl)))
falling_same (x ∷ xs) [] f g e = absurd (false≢true (sym (e x) ∙ or_left (eqb x x) (has xs x) (eq-eqb x x refl)))
falling_same (x ∷ xs) (y ∷ ys) f g e =
    let p = head_below x y ys g (sym (e x) ∙ or_left (eqb x x) (has xs x) (eq-eqb x x refl)) in
    let q = head_below y x xs f (e y ∙ or_left (eqb y y) (has ys y) (eq-eqb y y refl)) in
    let h : x ≡ y = omega arith in
    let t = falling_same xs ys f.1 g.1 (λ n. same_tests (has xs n) (has ys n) (tail_has x y xs ys h f.0 e n) (tail_has y x ys xs (sym h) g.0 (λ m. sym (e m)) n)) in
    cc

-- a kind of groups that a tree passes is listed by the tree where it is smallest
pub smallest_lists : (t : Tree) → Good 1 t → (P : ℕ → Type 0) → ((n : ℕ) → Group n → P n ↔ Passing t n) → (n : ℕ) → (lists t n ≡ true) ↔ Smallest P n
smallest_lists t k P e n = (
  λ h.
      let g = lists_group 1 t n k h in
      record {
        group = g;
        kind = (e n g).1 (lists_self 1 t n k h);
        least = λ m gm s pm.
            let r = passes_lists 1 t (holds m) k ((e m gm).0 pm) in
            let d = lists_apart 1 t k r.0 n r.1 h (λ v x. s v (r.2 v x)) in
            inside_both m n gm g s (λ v x. r.2 v (ap (λ z. holds z v) d ∙ x));
      },
  λ s.
      let r = passes_lists 1 t (holds n) k ((e n s.group).0 s.kind) in
      let g = lists_group 1 t r.0 k r.1 in
      let d = s.least r.0 g r.2 ((e r.0 g).1 (lists_self 1 t r.0 k r.1)) in
      ap (lists t) (sym d) ∙ r.1,
)

pub listed_smallest : ListedSmallest
listed_smallest t k n = smallest_lists t k (Passing t) (λ m g. ((λ x. x), (λ x. x))) n

pub listed_once : ListedOnce
listed_once t k ns f h = falling_same ns (groups t) f (groups_falling 1 t k) (λ n. same_tests (has ns n) (lists t n) (λ e. (listed_smallest t k n).1 ((h n).0 e)) (λ e. (h n).1 ((listed_smallest t k n).0 e)))
