-- What the two writes to a list of slots leave: the chains emptied, and a key more. Assumes nothing.
use Rattle.std.proofs.Common.{◌≡◌, ℕ, ◌+◌, ◌%◌, ◌<◌, ◌≤◌, ◌≢◌, List, [], ◌∷◌, ◌++◌, map, length, get_or, take, set, sym, refl, ap, ◌∙◌, subst, ⊎_elim, arith, below_more}
use Rattle.std.proofs.lemmas.Bool.{cases_eq}
use Rattle.std.proofs.lemmas.List.{length-set, get_or-set_same, get_or-set_other, set-get_or, map-set, map_push, take-map, take_more_set, get_or-map, get_or_default}
use Rattle.interning.specs.declared.slot.Slot.{Slot}
use Rattle.interning.specs.declared.slot.Link.{Link}
use Rattle.interning.specs.Chain.{Linked, keys}
use Rattle.interning.specs.Places.{Absent}
use Rattle.interning.proofs.Grow.{Pushed, chained_more, chained_none}
use Rattle.interning.proofs.Slots.{length_keys, key_at}

-- every chain before the bucket n is empty
abbrev pub Emptied : {K : Type 0} → List (Slot K) → ℕ → Type 0
Emptied {K} xs n = (b : ℕ) → b < n → (d : Slot K) → (get_or xs b d).head.past ≤ 0

pub emptied_more : {K : Type 0} (xs : List (Slot K)) (i : ℕ) (r : Slot K) → i < length xs → r.head.past ≡ 0 → Emptied xs i → Emptied (set xs i r) (i + 1)
emptied_more xs i r l e below =
    below_more _ _
    (λ k h d. let ne : k ≢ i = omega arith in rw get_or-set_other (below k h d))
    (λ d. rw (get_or-set_same, e) (omega arith))

pub linked_none : {K : Type 0} (mark : K → ℕ) (xs : List (Slot K)) → Emptied xs (length xs) → Linked mark xs 0
linked_none mark xs empty = record { chains = λ d. chained_none mark (length xs) _ _ _ (λ b l. empty b l d) }

-- a write that keeps a field keeps it everywhere
set_field : {K A : Type 0} (field : Slot K → A) (xs : List (Slot K)) (i : ℕ) (r s : Slot K) → i < length xs → field r ≡ field (get_or xs i s) → (p : ℕ) (d : Slot K) → field (get_or (set xs i r) p d) ≡ field (get_or xs p d)
set_field field xs i r s l e p d =
    ⊎_elim (λ (h : p ≡ i). subst (λ j. field (get_or (set xs i r) j d) ≡ field (get_or xs j d)) (sym h)
    (ap field (get_or-set_same xs i r d l) ∙ e ∙ ap field (get_or_default xs i s d l)))
    (λ (h : p ≡ i → ⊥). ap field (get_or-set_other xs i p r d h))
    (cases_eq p i)

-- the slot at b with a new head
abbrev pub headed : {K : Type 0} → List (Slot K) → ℕ → Link → Slot K → Slot K
headed xs b to d = record { key = (get_or xs b d).key; head = to; next = (get_or xs b d).next }

-- the slot at i with a key and the older places of its chain
abbrev pub filled : {K : Type 0} → List (Slot K) → ℕ → K → Link → Slot K → Slot K
filled xs i k older d = record { key = k; head = (get_or xs i d).head; next = older }

-- the slots with both
abbrev pub grown : {K : Type 0} → List (Slot K) → ℕ → K → ℕ → Link → Link → Slot K → Slot K → List (Slot K)
grown xs used k b to older d e = set (set xs b (headed xs b to d)) used (filled (set xs b (headed xs b to d)) used k older e)

module _ {K : Type 0} (xs : List (Slot K)) (used : ℕ) (free : used < length xs)
    (k : K) (b : ℕ) (in_range : b < length xs) (to older : Link) (to_is : to.past ≡ used + 1) (f s : Slot K) (older_is : older ≡ (get_or xs b f).head) where
  room' : used < length (set xs b (headed xs b to f))
  room' = simp length-set free

  -- a field of an old place that the first write keeps
  old : {A : Type 0} (field : Slot K → A) → field (headed xs b to f) ≡ field (get_or xs b f) → (p : ℕ) (d : Slot K) → p < used → field (get_or (grown xs used k b to older f s) p d) ≡ field (get_or xs p d)
  old field e p d l =
      ap field (get_or-set_other (set xs b (headed xs b to f)) used p (filled (set xs b (headed xs b to f)) used k older s) d (λ i. omega arith))
      ∙ set_field field xs b (headed xs b to f) f in_range e p d

  new : (d : Slot K) → get_or (grown xs used k b to older f s) used d ≡ filled (set xs b (headed xs b to f)) used k older s
  new d = get_or-set_same (set xs b (headed xs b to f)) used (filled (set xs b (headed xs b to f)) used k older s) d room'

  head_at : (p : ℕ) (d : Slot K) → (get_or (grown xs used k b to older f s) p d).head.past ≡ (get_or (set xs b (headed xs b to f)) p d).head.past
  head_at p d = set_field (λ t. t.head.past) (set xs b (headed xs b to f)) used (filled (set xs b (headed xs b to f)) used k older s) s room' refl p d

  pushed : (d : Slot K) → Pushed used b (λ c. (get_or xs c d).head.past) (λ q. (get_or xs q d).next.past) (λ c. (get_or (grown xs used k b to older f s) c d).head.past) (λ q. (get_or (grown xs used k b to older f s) q d).next.past)
  pushed d = record {
    head_old = λ c ne. head_at c d ∙ ap (λ (t : Slot K). t.head.past) (get_or-set_other xs b c (headed xs b to f) d ne);
    head_new = head_at b d ∙ ap (λ (t : Slot K). t.head.past) (get_or-set_same xs b (headed xs b to f) d in_range) ∙ to_is;
    next_old = λ q l. old (λ t. t.next.past) refl q d l;
    next_new = ap (λ (t : Slot K). t.next.past) (new d) ∙ ap (λ (t : Link). t.past) older_is ∙ ap (λ (t : Slot K). t.head.past) (get_or_default xs b f d in_range);
  }

  length_grown : length (grown xs used k b to older f s) ≡ length xs
  length_grown = simp length-set

  linked_more : {mark : K → ℕ} → mark k % length xs ≡ b → Linked mark xs used → Absent (keys xs used) k → Linked mark (grown xs used k b to older f s) (used + 1)
  linked_more home linked fresh = record {
    chains = λ d. simp length-set
        (chained_more (linked.chains d) (pushed d) in_range k home
        (λ p l e. fresh p d.key (omega (arith, length_keys xs used)) (key_at xs used p d.key d l (omega arith) ∙ e))
        (λ p l. old (λ t. t.key) refl p d l)
        (ap (λ (t : Slot K). t.key) (new d)));
  }

  keys_more : keys (grown xs used k b to older f s) (used + 1) ≡ keys xs used ++ (k ∷ [])
  keys_more =
      let key : Slot K → K = λ t. t.key in
      let ys : List (Slot K) = set xs b (headed xs b to f) in
      let same : map key ys ≡ map key xs =
      map-set key xs b (headed xs b to f)
      ∙ ap (set (map key xs) b) (sym (get_or-map key xs b f f.key in_range))
      ∙ set-get_or (map key xs) b f.key in
      ap (map key) (take_more_set ys used (filled ys used k older s) room')
      ∙ map_push key (take used ys) (filled ys used k older s)
      ∙ ap (λ zs. zs ++ (k ∷ [])) (sym (take-map key used ys) ∙ ap (take used) same ∙ take-map key used xs)

  -- the slots are as many, the keys one more, and the chains as sound as before
  pub written : (length (grown xs used k b to older f s) ≡ length xs)
      × (keys (grown xs used k b to older f s) (used + 1) ≡ keys xs used ++ (k ∷ []))
      × ((mark : K → ℕ) → mark k % length xs ≡ b → Linked mark xs used → Absent (keys xs used) k → Linked mark (grown xs used k b to older f s) (used + 1))
  written = (length_grown, keys_more, λ mark home linked fresh. linked_more home linked fresh)
