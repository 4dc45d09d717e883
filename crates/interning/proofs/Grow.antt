-- A key more in its bucket's chain, over functions of the place. Assumes nothing.
use Rattle.std.proofs.Common.{◌≡◌, ℕ, ◌+◌, ◌%◌, ◌<◌, ◌≤◌, sym, ap, ◌∙◌, subst, ⊎_elim, arith}
use Rattle.std.proofs.lemmas.Bool.{cases_eq, cases_lt}
use Rattle.interning.specs.Chain.{Chained}

-- a place is an old one or the new one
old_or_new : (P : ℕ → Type 0) (used : ℕ) → ((p : ℕ) → p < used → P p) → P used → (p : ℕ) → p < used + 1 → P p
old_or_new P used old new p l =
    ⊎_elim (λ (i : p < used). old p i) (λ (i : used ≤ p). let e : used ≡ p = omega arith in subst P e new) (cases_lt p used)

-- What the links are once `used` stands at the head of the bucket b.
pub record Pushed (used b : ℕ) (head next head' next' : ℕ → ℕ) : Type 0 where
  pub head_old : (c : ℕ) → (c ≡ b → ⊥) → head' c ≡ head c
  pub head_new : head' b ≡ used + 1
  pub next_old : (q : ℕ) → q < used → next' q ≡ next q
  pub next_new : next' used ≡ head b

module _ {K : Type 0} {mark : K → ℕ} {n used b : ℕ} {key key' : ℕ → K} {head next head' next' : ℕ → ℕ}
    (c : Chained mark n used key head next) (pushed : Pushed used b head next head' next') (in_range : b < n)
    (k : K) (home : mark k % n ≡ b) (fresh : (p : ℕ) → p < used → key p ≡ k → ⊥)
    (key-old : (p : ℕ) → p < used → key' p ≡ key p) (key-new : key' used ≡ k) where
  heads' : (a : ℕ) → a < n → head' a ≤ used + 1
  heads' a l =
      ⊎_elim (λ (i : a ≡ b). let e : head' a ≡ used + 1 = ap head' i ∙ pushed.head_new in omega arith)
      (λ (i : a ≡ b → ⊥). omega (arith, pushed.head_old a i, c.heads a l))
      (cases_eq a b)

  nexts' : (q : ℕ) → q < used + 1 → next' q ≤ q
  nexts' =
      old_or_new (λ q. next' q ≤ q) used
      (λ q l. omega (arith, pushed.next_old q l, c.nexts q l))
      (omega (arith, pushed.next_new, c.heads b in_range))

  home_old : (p : ℕ) → p < used → mark (key' p) % n ≡ mark (key p) % n
  home_old p l = ap (λ x. mark x % n) (key-old p l)

  home_new : mark (key' used) % n ≡ b
  home_new = ap (λ x. mark x % n) key-new ∙ home

  first' : (p : ℕ) → p < used + 1 → p < head' (mark (key' p) % n)
  first' =
      old_or_new (λ p. p < head' (mark (key' p) % n)) used
      (λ p l. ⊎_elim
      (λ (i : mark (key p) % n ≡ b).
      let e : head' (mark (key' p) % n) ≡ used + 1 = ap head' (home_old p l ∙ i) ∙ pushed.head_new in omega arith)
      (λ (i : mark (key p) % n ≡ b → ⊥).
      let e : head' (mark (key' p) % n) ≡ head (mark (key p) % n) = ap head' (home_old p l) ∙ pushed.head_old (mark (key p) % n) i in
      omega (arith, e, c.first p l))
      (cases_eq (mark (key p) % n) b))
      (let e : head' (mark (key' used) % n) ≡ used + 1 = ap head' home_new ∙ pushed.head_new in omega arith)

  older' : (q : ℕ) → q < used + 1 → (p : ℕ) → p < q → mark (key' p) % n ≡ mark (key' q) % n → p < next' q
  older' =
      old_or_new (λ q. (p : ℕ) → p < q → mark (key' p) % n ≡ mark (key' q) % n → p < next' q) used
      (λ q l p m e.
      let l' : p < used = omega arith in
      omega (arith, pushed.next_old q l, c.older p q m l (sym (home_old p l') ∙ e ∙ home_old q l)))
      (λ p l e.
      let h : head (mark (key p) % n) ≡ head b = ap head (sym (home_old p l) ∙ e ∙ home_new) in
      omega (arith, pushed.next_new, h, c.first p l))

  home_head' : (a p : ℕ) → a < n → head' a ≡ p + 1 → mark (key' p) % n ≡ a
  home_head' a p l e =
      ⊎_elim (λ (i : a ≡ b).
      let u : used ≡ p = omega (arith, sym (ap head' i ∙ pushed.head_new) ∙ e) in
      subst (λ x. mark (key' x) % n ≡ a) u (home_new ∙ sym i))
      (λ (i : a ≡ b → ⊥).
      let g : head a ≡ p + 1 = sym (pushed.head_old a i) ∙ e in
      let m : p < used = omega (arith, c.heads a l) in
      home_old p m ∙ c.home_head a p l g)
      (cases_eq a b)

  home_next' : (q : ℕ) → q < used + 1 → (p : ℕ) → next' q ≡ p + 1 → mark (key' p) % n ≡ mark (key' q) % n
  home_next' =
      old_or_new (λ q. (p : ℕ) → next' q ≡ p + 1 → mark (key' p) % n ≡ mark (key' q) % n) used
      (λ q l p e.
      let g : next q ≡ p + 1 = sym (pushed.next_old q l) ∙ e in
      let m : p < used = omega (arith, c.nexts q l) in
      home_old p m ∙ c.home_next q p l g ∙ sym (home_old q l))
      (λ p e.
      let g : head b ≡ p + 1 = sym pushed.next_new ∙ e in
      let m : p < used = omega (arith, c.heads b in_range) in
      home_old p m ∙ c.home_head b p in_range g ∙ sym home_new)

  apart' : (q : ℕ) → q < used + 1 → (p : ℕ) → p < q → key' p ≡ key' q → ⊥
  apart' =
      old_or_new (λ q. (p : ℕ) → p < q → key' p ≡ key' q → ⊥) used
      (λ q l p m e. let l' : p < used = omega arith in c.apart p q m l (sym (key-old p l') ∙ e ∙ key-old q l))
      (λ p l e. fresh p l (sym (key-old p l) ∙ e ∙ key-new))

  pub chained_more : Chained mark n (used + 1) key' head' next'
  chained_more = record {
    heads = heads';
    nexts = nexts';
    first = first';
    older = λ p q m l e. older' q l p m e;
    home_head = home_head';
    home_next = λ q p l e. home_next' q l p e;
    apart = λ p q m l e. apart' q l p m e;
  }

pub chained_none : {K : Type 0} (mark : K → ℕ) (n : ℕ) (key : ℕ → K) (head next : ℕ → ℕ) → ((b : ℕ) → b < n → head b ≤ 0) → Chained mark n 0 key head next
chained_none mark n key head next empty = record {
  heads = empty;
  nexts = λ q l. omega arith;
  first = λ p l. omega arith;
  older = λ p q m l e. omega arith;
  home_head = λ b p l e. let z = empty b l in let f : ⊥ = omega arith in absurd f;
  home_next = λ q p l e. let f : ⊥ = omega arith in absurd f;
  apart = λ p q m l e. omega arith;
}
