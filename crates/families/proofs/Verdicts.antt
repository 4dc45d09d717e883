-- When the groups of a family meet, and when a coterie is dominated.
use Rattle.std.proofs.Common.{◌≡◌, ℕ, ◌+◌, ◌<◌, ◌≤◌, Bool, true, not, ◌&&◌, ◌||◌, eqb, ◌⊎◌, List, [], ◌∷◌, sym, refl, ap, ◌∙◌, subst, inl, inr, ⊎_elim, arith}
use lib.Bits.{bit_and}
use Rattle.std.proofs.lemmas.Bool.{not-false, eq-eqb, eqb-true, or_cases, or_left, or_right, and_parts, and_from, both_ways, cases_Bool, not-true, not_from_false, false≢true}
use Rattle.families.specs.Sets.{has, Inside, Meet, rest}
use Rattle.families.specs.Groups.{weight, holds, Group, Falling}
use Rattle.families.specs.Trees.{Tree, none, passes, groups, lists, is_none}
use Rattle.families.specs.Good.{Good}
use Rattle.families.specs.Kinds.{Passing, Stopping}
use Rattle.families.specs.Questions.{less, turn}
use Rattle.families.specs.Outcomes.{answer}
use Rattle.families.specs.Coteries.{Within, Coterie, Dominates, Nondominated}
use Rattle.families.specs.Verdicts.{ClashListed, Meeting, MeetingCoterie, MeetingPassing, MeetingVerdict, NondominatedVerdict, Witness, WitnessListed, FirstWitness}
use Rattle.families.proofs.Bools.{same_tests, refute, affirm, not_both}
use Rattle.families.proofs.Weights.{weight_pos, holds_zero, holds_add}
use Rattle.families.proofs.Common.{masks}
use Rattle.families.proofs.Listing.{all_each, lists_group, some_group, groups_falling}
use Rattle.families.proofs.Passing.{passes_mono, passes_lists, lists_self}
use Rattle.families.proofs.Lesses.{lists_less, less_cover}
use Rattle.families.proofs.Sights.{none_is}
use Rattle.families.proofs.Solving.{answer_right}
use Rattle.families.proofs.Smallest.{inside_both, lists_apart}
use Rattle.families.proofs.Members.{occurs_lists, lists_occurs, members_among}
use Rattle.families.proofs.Stopping.{turned, stopping_passes, turn_smallest}

-- a good tree with no group is none
pub empty_none : (b : ℕ) (t : Tree) → Good b t → ((n : ℕ) → lists t n ≡ true → ⊥) → t ≡ none
empty_none b t k h = none_is t (affirm (is_none t) (λ e. let r = some_group b t k e in h r.0 r.1))

-- all groups meet exactly when every passing group stops
meeting_stops : (f : Tree) → Good 1 f → Meeting f → (n : ℕ) → Passing f n → Stopping f n
meeting_stops f k h n e m g p =
    let x = passes_lists 1 f (holds n) k e in
    let y = passes_lists 1 f (holds m) k p in
    let r = h x.0 y.0 x.1 y.1 in
    (r.0, x.2 r.0 r.1, y.2 r.0 r.2)

pub meeting_passing : MeetingPassing
meeting_passing f k = (
  λ h m n gm gn pm pn. meeting_stops f k h m pm n gn pn,
  λ h m n lm ln. h m n (lists_group 1 f m k lm) (lists_group 1 f n k ln) (lists_self 1 f m k lm) (lists_self 1 f n k ln),
)

pub meeting_coterie : MeetingCoterie
meeting_coterie n f k u = (
  λ h. record {
    within = λ m e. (lists_group 1 f m k e, λ v x. u v (lists_occurs 1 f m v k e x));
    full = λ m e. let r = h m m e e in (r.0, r.1);
    apart = lists_apart 1 f k;
    meeting = h;
  },
  λ c. c.meeting,
)

-- where nothing is left, what F passes G passes
less_none : (f g : Tree) → Good 1 f → Good 1 g → answer (less f g) ≡ none → (s : ℕ → Bool) → passes f s ≡ true → passes g s ≡ true
less_none f g k m z s e = affirm (passes g s) (λ d.
    false≢true (sym (ap (λ t. passes t s) z) ∙ less_cover f g (answer (less f g)) k (answer_right 1 (omega arith) (omega arith) (less f g) (k, m)) s d e))

-- and where what F lists passes G, nothing is left
none_less : (f g : Tree) → Good 1 f → Good 1 g → ((n : ℕ) → lists f n ≡ true → passes g (holds n) ≡ true) → answer (less f g) ≡ none
none_less f g k m h =
    let l = answer_right 1 (omega arith) (omega arith) (less f g) (k, m) in
    empty_none 1 (answer (less f g)) l.good (λ n e.
    let p = and_parts (lists f n) (not (passes g (holds n))) (sym (lists_less f g (answer (less f g)) l n) ∙ e) in
    not_both (passes g (holds n)) (h n p.0) p.1)

pub meeting_verdict : MeetingVerdict
meeting_verdict f k =
    let t = turned f k in (
      λ h. none_less f (answer (turn f)) k t.good (λ n e. (stopping_passes f k n).0 (meeting_stops f k h n (lists_self 1 f n k e))),
      λ z m n lm ln.
          let e = less_none f (answer (turn f)) k t.good z (holds m) (lists_self 1 f m k lm) in
          (stopping_passes f k m).1 e n (lists_group 1 f n k ln) (lists_self 1 f n k ln),
    )

pub clash_listed : ClashListed
clash_listed f k m =
    let t = turned f k in
    let d = answer (turn f) in
    let e = lists_less f d (answer (less f d)) (answer_right 1 (omega arith) (omega arith) (less f d) (k, t.good)) m in (
      λ h.
          let p = and_parts (lists f m) (not (passes d (holds m))) (sym e ∙ h) in
          let q = not-false (passes f (rest (holds m))) (sym (t.asks (holds m)) ∙ not-true (passes d (holds m)) p.1) in
          let r = passes_lists 1 f (rest (holds m)) k q in
          (r.0, p.0, r.1, λ x. not_both (holds m x.0) x.1 (r.2 x.0 x.2)),
      λ r. e ∙ and_from (lists f m) (not (passes d (holds m))) r.1 (not_from_false (passes d (holds m)) (refute (passes d (holds m)) (λ x.
          r.3 ((stopping_passes f k m).1 x r.0 (lists_group 1 f r.0 k r.2) (lists_self 1 f r.0 k r.2))))),
    )

pub witness_listed : WitnessListed
witness_listed f k w =
    let t = turned f k in
    let d = answer (turn f) in
    let e = lists_less d f (answer (less d f)) (answer_right 1 (omega arith) (omega arith) (less d f) (t.good, k)) w in (
      λ h.
          let p = and_parts (lists d w) (not (passes f (holds w))) (sym e ∙ h) in
          record {
            stopping = (turn_smallest f k w).0 p.0;
            fails = λ m g s x. both_ways (passes f (holds w)) (not-true (passes f (holds w)) p.1) (passes_mono f (holds m) (holds w) s x);
          },
      λ r.
          let l = (turn_smallest f k w).1 r.stopping in
          let q = refute (passes f (holds w)) (λ x. r.fails w r.stopping.group (λ v y. y) x) in
          e ∙ and_from (lists d w) (not (passes f (holds w))) l (not_from_false (passes f (holds w)) q),
    )

-- the first of a falling list is the largest
falling_first : (w : ℕ) (ws : List ℕ) → Falling (w ∷ ws) → (m : ℕ) → has (w ∷ ws) m ≡ true → m ≤ w
falling_first w ws h m e = ⊎_elim (λ d. let q = eqb-true m w d in omega arith) (λ d. let q = all_each (λ n. n < w) ws h.0 m d in omega arith) (or_cases (eqb m w) (has ws m) e)

pub first_witness : FirstWitness
first_witness f k z = by_list (groups (answer (less (answer (turn f)) f))) refl
  where
    by_list : (xs : List ℕ) → groups (answer (less (answer (turn f)) f)) ≡ xs
        → (w : ℕ) × (ws : List ℕ) × (groups (answer (less (answer (turn f)) f)) ≡ w ∷ ws) × Witness f w × ((m : ℕ) → Witness f m → m ≤ w)
    by_list [] e =
        let good = (answer_right 1 (omega arith) (omega arith) (less (answer (turn f)) f) ((turned f k).good, k)).good in
        absurd (z (empty_none 1 (answer (less (answer (turn f)) f)) good (λ n h. false≢true (sym (ap (λ l. has l n) e) ∙ h))))
    by_list (w ∷ ws) e =
        let good = (answer_right 1 (omega arith) (omega arith) (less (answer (turn f)) f) ((turned f k).good, k)).good in
        let falls = subst Falling e (groups_falling 1 (answer (less (answer (turn f)) f)) good) in (
          w,
          ws,
          e,
          (witness_listed f k w).0 (ap (λ l. has l w) e ∙ or_left (eqb w w) (has ws w) (eq-eqb w w refl)),
          λ m h. falling_first w ws falls m (ap (λ l. has l m) (sym e) ∙ (witness_listed f k m).1 h),
        )

-- the coterie of the one member 1 dominates the empty one
one : ℕ → Bool
one m = eqb m (weight 1 + 0)

one_holds : (v : ℕ) → holds (weight 1 + 0) v ≡ (eqb v 1 || holds 0 v)
one_holds v = holds_add 0 1 v (omega arith) (weight_pos 1)

one_here : holds (weight 1 + 0) 1 ≡ true
one_here = one_holds 1 ∙ or_left (eqb 1 1) (holds 0 1) refl

one_only : (v : ℕ) → holds (weight 1 + 0) v ≡ true → v ≡ 1
one_only v h = ⊎_elim (λ e. eqb-true v 1 e) (λ e. absurd (both_ways (holds 0 v) (holds_zero v) e)) (or_cases (eqb v 1) (holds 0 v) (sym (one_holds v) ∙ h))

one_group : Group (weight 1 + 0)
unfolding weight
one_group = omega arith

one_coterie : (n : ℕ) → 1 ≤ n → Coterie n one
unfolding one
one_coterie n p = record {
  within = λ m e. subst (Within n) (sym (eqb-true m (weight 1 + 0) e)) (one_group, λ v h. let q = one_only v h in omega arith);
  full = λ m e. (1, ap (λ z. holds z 1) (eqb-true m (weight 1 + 0) e) ∙ one_here);
  apart = λ m k e d s. eqb-true m (weight 1 + 0) e ∙ sym (eqb-true k (weight 1 + 0) d);
  meeting = λ m k e d. (1, ap (λ z. holds z 1) (eqb-true m (weight 1 + 0) e) ∙ one_here, ap (λ z. holds z 1) (eqb-true k (weight 1 + 0) d) ∙ one_here);
}

one_dominates : (f : Tree) → f ≡ none → Dominates one (lists f)
unfolding one
one_dominates f z = record {
  other = λ e. false≢true (sym (ap (λ t. lists t (weight 1 + 0)) z) ∙ sym (e (weight 1 + 0)) ∙ eq-eqb (weight 1 + 0) (weight 1 + 0) refl);
  covers = λ m e. absurd (false≢true (sym (ap (λ t. lists t m) z) ∙ e));
}

-- a coterie f, not empty, and a witness w: with w in place of the groups that contain it, f becomes a coterie that dominates it
module _ (n : ℕ) (f : Tree) (k : Good 1 f) (c : Coterie n (lists f)) (w : ℕ) (r : Witness f w) (x : ℕ) (lx : lists f x ≡ true) where
  with_w : ℕ → Bool
  with_w m = eqb m w || (lists f m && not (eqb (bit_and m w) w))

  w_group : Group w
  w_group = r.stopping.group

  w_meets : (m : ℕ) → lists f m ≡ true → Meet (holds w) (holds m)
  w_meets m e = r.stopping.kind m (lists_group 1 f m k e) (lists_self 1 f m k e)

  w_within : Within n w
  w_within = (
    w_group,
    λ v h.
        let o = members_among (turn f) k v (lists_occurs 1 (answer (turn f)) w v (turned f k).good ((turn_smallest f k w).1 r.stopping) h) in
        let y = occurs_lists 1 f v k o in
        (c.within y.0 y.1).1 v y.2,
  )

  -- a group of it is w, or one of f that does not contain w
  abbrev KeptOr : ℕ → Type 0
  KeptOr m = (m ≡ w) ⊎ ((lists f m ≡ true) × (Inside (holds w) (holds m) → ⊥))

  with_cases : (m : ℕ) → with_w m ≡ true → KeptOr m
  unfolding with_w
  with_cases m e = ⊎_elim
      (λ d. inl (eqb-true m w d))
      (λ d.
      let p = and_parts (lists f m) (not (eqb (bit_and m w) w)) d in
      inr (p.0, λ s. not_both (eqb (bit_and m w) w) (eq-eqb (bit_and m w) w ((masks m w (lists_group 1 f m k p.0) w_group).contains.1 s)) p.1))
      (or_cases (eqb m w) (lists f m && not (eqb (bit_and m w) w)) e)

  w_in : with_w w ≡ true
  unfolding with_w
  w_in = or_left (eqb w w) (lists f w && not (eqb (bit_and w w) w)) (eq-eqb w w refl)

  with_meets : (m l : ℕ) → KeptOr m → KeptOr l → Meet (holds m) (holds l)
  with_meets m l p q = ⊎_elim
      (λ a. ⊎_elim
      (λ b. let y = w_meets x lx in (y.0, ap (λ z. holds z y.0) a ∙ y.1, ap (λ z. holds z y.0) b ∙ y.1))
      (λ b. let y = w_meets l b.0 in (y.0, ap (λ z. holds z y.0) a ∙ y.1, y.2)) q)
      (λ a. ⊎_elim
      (λ b. let y = w_meets m a.0 in (y.0, y.2, ap (λ z. holds z y.0) b ∙ y.1))
      (λ b. c.meeting m l a.0 b.0) q) p

  with_apart : (m l : ℕ) → KeptOr m → KeptOr l → Inside (holds m) (holds l) → m ≡ l
  with_apart m l p q s = ⊎_elim
      (λ a. ⊎_elim (λ b. a ∙ sym b) (λ b. absurd (b.1 (λ v h. s v (ap (λ z. holds z v) a ∙ h)))) q)
      (λ a. ⊎_elim
      (λ b. absurd (r.fails m (lists_group 1 f m k a.0) (λ v h. ap (λ z. holds z v) (sym b) ∙ s v h) (lists_self 1 f m k a.0)))
      (λ b. c.apart m l a.0 b.0 s) q) p

  with_coterie : Coterie n with_w
  with_coterie = record {
    within = λ m e. ⊎_elim (λ a. subst (Within n) (sym a) w_within) (λ a. c.within m a.0) (with_cases m e);
    full = λ m e. let y = with_meets m m (with_cases m e) (with_cases m e) in (y.0, y.1);
    apart = λ m l e d s. with_apart m l (with_cases m e) (with_cases l d) s;
    meeting = λ m l e d. with_meets m l (with_cases m e) (with_cases l d);
  }

  with_dominates : Dominates with_w (lists f)
  unfolding with_w
  with_dominates = record {
    other = λ e. r.fails w w_group (λ v h. h) (lists_self 1 f w k (sym (e w) ∙ w_in));
    covers = λ m e. ⊎_elim
        (λ d. (w, w_in, (masks m w (lists_group 1 f m k e) w_group).contains.0 (eqb-true (bit_and m w) w d)))
        (λ d. (m, or_right (eqb m w) (lists f m && not (eqb (bit_and m w) w)) (and_from (lists f m) (not (eqb (bit_and m w) w)) e (not_from_false (eqb (bit_and m w) w) d)), λ v h. h))
        (cases_Bool (eqb (bit_and m w) w));
  }

-- a witness shows that a coterie is dominated
witness_dominates : (n : ℕ) → 1 ≤ n → (f : Tree) → Good 1 f → Coterie n (lists f) → (w : ℕ) → Witness f w → Nondominated n (lists f) → ⊥
witness_dominates n p f k c w r h = ⊎_elim
    (λ e. h one (one_coterie n p) (one_dominates f (none_is f e)))
    (λ e. let x = some_group 1 f k e in h (with_w n f k c w r x.0 x.1) (with_coterie n f k c w r x.0 x.1) (with_dominates n f k c w r x.0 x.1))
    (cases_Bool (is_none f))

-- where each stopping group passes, a coterie that covers f is f
module _ (n : ℕ) (f : Tree) (k : Good 1 f) (stops : (m : ℕ) → Stopping f m → Passing f m) (D : ℕ → Bool) (d : Coterie n D)
    (covers : (m : ℕ) → lists f m ≡ true → (l : ℕ) × (D l ≡ true) × Inside (holds l) (holds m)) where
  cover_stops : (m : ℕ) → D m ≡ true → Stopping f m
  cover_stops m e l g p =
      let x = passes_lists 1 f (holds l) k p in
      let y = covers x.0 x.1 in
      let z = d.meeting m y.0 e y.1 in
      (z.0, z.1, x.2 z.0 (y.2 z.0 z.2))

  cover_lists : (m : ℕ) → D m ≡ true → lists f m ≡ true
  cover_lists m e =
      let x = passes_lists 1 f (holds m) k (stops m (cover_stops m e)) in
      let y = covers x.0 x.1 in
      let z = d.apart y.0 m y.1 e (λ v h. x.2 v (y.2 v h)) in
      let i = inside_both x.0 m (lists_group 1 f x.0 k x.1) (d.within m e).0 x.2 (λ v h. y.2 v (ap (λ u. holds u v) z ∙ h)) in
      ap (lists f) (sym i) ∙ x.1

  lists_cover : (m : ℕ) → lists f m ≡ true → D m ≡ true
  lists_cover m e =
      let y = covers m e in
      let i = lists_apart 1 f k y.0 m (cover_lists y.0 y.1) e y.2 in
      ap D (sym i) ∙ y.1

pub nondominated_verdict : NondominatedVerdict
nondominated_verdict n p q f k c =
    let t = turned f k in (
      λ h. none_less (answer (turn f)) f t.good k (λ w e. affirm (passes f (holds w)) (λ x.
          witness_dominates n p f k c w (record { stopping = (turn_smallest f k w).0 e; fails = λ m g s y. both_ways (passes f (holds w)) x (passes_mono f (holds m) (holds w) s y) }) h)),
      λ z D d o.
          let stops : (m : ℕ) → Stopping f m → Passing f m = λ m s. less_none (answer (turn f)) f t.good k z (holds m) ((stopping_passes f k m).0 s) in
          o.other (λ m. same_tests (D m) (lists f m) (cover_lists n f k stops D d o.covers m) (lists_cover n f k stops D d o.covers m)),
    )
