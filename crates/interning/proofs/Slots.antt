-- The keys of a list of slots, and the walk for one. Assumes nothing.
use Rattle.std.proofs.Common.{◌≡◌, ℕ, ◌+◌, ◌%◌, ◌<◌, ◌≤◌, min, Bool, true, false, List, length, get_or, take, Some, sym, ap, ◌∙◌, subst, mod-lt, arith}
use Rattle.std.proofs.lemmas.List.{length-map, length-take, get_or-map, get_or-take, get_or_default, get_or_read}
use Rattle.interning.specs.declared.slot.Slot.{Slot}
use Rattle.interning.specs.Chain.{Linked, Seeking, Seeks, keys}
use Rattle.interning.specs.Places.{Absent, Only, Stands, Sought}
use Rattle.interning.proofs.Walk.{Lawful, seek_start, seek_step}

module _ {K : Type 0} (xs : List (Slot K)) (used : ℕ) where
  pub length_keys : length (keys xs used) ≡ min used (length xs)
  length_keys = length-map (take used xs) (λ s. s.key) ∙ length-take used xs

  pub key_at : (i : ℕ) (d : K) (e : Slot K) → i < used → i < length xs → get_or (keys xs used) i d ≡ (get_or xs i e).key
  key_at i d e l m =
      let n : i < length (take used xs) = omega (arith, length-take used xs) in
      get_or-map (λ s. s.key) (take used xs) i e d n ∙ ap (λ (s : Slot K). s.key) (get_or-take used xs i e l)

  -- the key of a used slot stands at its place
  pub stands : (q : ℕ) (s : Slot K) → q < used → q < length xs → s ≡ get_or xs q s → Stands (keys xs used) s.key q
  stands q s l m is = record { within = omega (arith, length_keys); here = λ d. key_at q d s l m ∙ ap (λ (t : Slot K). t.key) (sym is) }

-- a slot to read at, for any key
abbrev pub blank : {K : Type 0} → K → Slot K
blank d = record { key = d; head = record { past = 0 }; next = record { past = 0 } }

module _ {K : Type 0} {mark : K → ℕ} (equal : K → K → Bool) {xs : List (Slot K)} {used : ℕ} (linked : Linked mark xs used) (k : K) where
  pub starts : (b : ℕ) (s : Slot K) → 0 < length xs → b ≡ mark k % length xs → Seeks mark equal xs used k (get_or xs b s).head.past
  starts b s pos e = record {
    bound =
        let l : mark k % length xs < length xs = mod-lt (mark k) pos in
        (linked.chains s).heads b (omega arith);
    at = λ d.
        let l : mark k % length xs < length xs = mod-lt (mark k) pos in
        let same : get_or xs (mark k % length xs) d ≡ get_or xs b s = get_or_default xs (mark k % length xs) d s l ∙ ap (λ m. get_or xs m s) (sym e) in
        subst (λ (t : Slot K). Seeking mark equal (length xs) used (λ p. (get_or xs p d).key) k t.head.past) same (seek_start equal (linked.chains d) k pos);
  }

  pub step_bound : (q : ℕ) (s : Slot K) → q < used → s ≡ get_or xs q s → s.next.past ≤ q
  step_bound q s l is = subst (λ (t : Slot K). t.next.past ≤ q) (sym is) ((linked.chains s).nexts q l)

  pub steps : (cursor q : ℕ) (s : Slot K) → q < used → used ≤ length xs → s ≡ get_or xs q s → equal s.key k ≡ false → cursor ≡ q + 1 → Seeks mark equal xs used k cursor → Seeks mark equal xs used k s.next.past
  steps cursor q s l fits is differs at-q seeks = record {
    bound = omega (arith, step_bound q s l is);
    at = λ d.
        let m : q < length xs = omega arith in
        let same : get_or xs q d ≡ s = sym (get_or_read xs q s m is d) in
        subst (λ (t : Slot K). Seeking mark equal (length xs) used (λ p. (get_or xs p d).key) k t.next.past) same
        (seek_step equal (linked.chains d) k q l (subst (λ (t : Slot K). equal t.key k ≡ false) (sym same) differs)
        (subst (Seeking mark equal (length xs) used (λ p. (get_or xs p d).key) k) at-q (seeks.at d)));
  }

-- where no place is used, every walk is over
pub starts_none : {K : Type 0} (mark : K → ℕ) (equal : K → K → Bool) (xs : List (Slot K)) (used : ℕ) (k : K) (cursor : ℕ) → used ≡ 0 → cursor ≡ 0 → Seeks mark equal xs used k cursor
starts_none mark equal xs used k cursor none over = record {
  bound = omega arith;
  at = λ d. record {
    home = λ p e. let f : ⊥ = omega arith in absurd f;
    before = λ p l h e. omega arith;
  };
}

module _ {K : Type 0} {mark : K → ℕ} {equal : K → K → Bool} (lawful : Lawful mark equal)
    {xs : List (Slot K)} {used : ℕ} (linked : Linked mark xs used) (fits : used ≤ length xs) (k : K) where
  only : (q : ℕ) → q < used → ((d : Slot K) → (get_or xs q d).key ≡ k) → Only (keys xs used) k q
  only q l here j d h f =
      let s = blank d in
      let m : j < used = omega (arith, length_keys xs used) in
      let at_j : (get_or xs j s).key ≡ k = sym (key_at xs used j d s m (omega arith)) ∙ f in
      let below : j < q → ⊥ = λ o. (linked.chains s).apart j q o l (at_j ∙ sym (here s)) in
      let above : q < j → ⊥ = λ o. (linked.chains s).apart q j o m (here s ∙ sym at_j) in
      omega arith

  pub found : (q : ℕ) (s : Slot K) → q < used → s ≡ get_or xs q s → equal s.key k ≡ true → Sought (keys xs used) k (Some q)
  found q s l is told =
      let m : q < length xs = omega arith in
      let e = (lawful.exact s.key k).0 told in (
        subst (λ x. Stands (keys xs used) x q) e (stands xs used q s l m is),
        only q l (λ d. ap (λ (t : Slot K). t.key) (sym (get_or_read xs q s m is d)) ∙ e),
      )

  pub missing : (cursor : ℕ) → cursor ≡ 0 → Seeks mark equal xs used k cursor → Absent (keys xs used) k
  missing cursor over seeks i d l e =
      let m : i < used = omega (arith, length_keys xs used) in
      let x = (get_or xs i (blank d)).key in
      let told = (lawful.exact x k).1 (sym (key_at xs used i d (blank d) m (omega arith)) ∙ e) in
      let under = (seeks.at (blank d)).before i m (ap (λ h. h % length xs) (lawful.marked x k told)) told in
      omega arith
