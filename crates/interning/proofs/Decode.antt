-- Laws of what keys mean. Assumes nothing.
use Rattle.std.proofs.Common.{◌≡◌, ℕ, ◌+◌, ◌<◌, List, [], ◌∷◌, ◌++◌, length, get_or, Ok, Err, Result, sym, refl, ap, ◌∙◌, subst, ⊎_elim, arith}
use Rattle.std.proofs.lemmas.List.{length_push, get_or_push, get_or_append_left}
use Rattle.interning.specs.declared.interner.Full.{Full}
use Rattle.interning.specs.Places.{Absent, Stands, Apart, Each, Kept}
use Rattle.interning.specs.Interned.{Appended, Placed, Interned}
use Rattle.interning.specs.Decode.{decode_on, decode, Rooted, Readable, Decodes, Separates, Lifts}
use Rattle.interning.proofs.Places.{push_induction, only_apart, places_push, places_front, places_last, apart_push, apart_front, apart_last}
use Rattle.interning.proofs.Interned.{placed_old, placed_new}

module _ {K T : Type 0} (tree : List T → K → T) where
  push_on : (ts : List T) (ks : List K) (k : K) → decode_on tree ts (ks ++ (k ∷ [])) ≡ decode_on tree ts ks ++ (tree (decode_on tree ts ks) k ∷ [])
  unfolding decode_on
  push_on ts [] k = refl
  push_on ts (x ∷ ks) k = push_on (ts ++ (tree ts x ∷ [])) ks k

  pub decode_none : decode tree [] ≡ []
  unfolding decode_on
  decode_none = refl

  pub decode_push : (ks : List K) (k : K) → decode tree (ks ++ (k ∷ [])) ≡ decode tree ks ++ (tree (decode tree ks) k ∷ [])
  decode_push = push_on []

  length_on : (ts : List T) (ks : List K) → length (decode_on tree ts ks) ≡ length ts + length ks
  unfolding decode_on
  length_on ts [] = omega arith
  length_on ts (k ∷ ks) = omega (arith, length_on (ts ++ (tree ts k ∷ [])) ks, length_push ts (tree ts k))

  pub length_decode : (ks : List K) → length (decode tree ks) ≡ length ks
  length_decode ks = omega (arith, length_on [] ks)

  kept_on : (ts : List T) (ks : List K) (p : ℕ) (d : T) → p < length ts → get_or (decode_on tree ts ks) p d ≡ get_or ts p d
  unfolding decode_on
  kept_on ts [] p d l = refl
  kept_on ts (k ∷ ks) p d l =
      kept_on (ts ++ (tree ts k ∷ [])) ks p d (omega (arith, length_push ts (tree ts k)))
      ∙ get_or_append_left ts (tree ts k ∷ []) d p l

  append_on : (ts : List T) (ks ls : List K) → decode_on tree ts (ks ++ ls) ≡ decode_on tree (decode_on tree ts ks) ls
  unfolding decode_on
  append_on ts [] ls = refl
  append_on ts (k ∷ ks) ls = append_on (ts ++ (tree ts k ∷ [])) ks ls

  -- what the earlier keys mean stays when keys are added
  pub decode_kept : (ks ls : List K) → Kept (decode tree ks) (decode tree (ks ++ ls))
  decode_kept ks ls = record {
    longer = omega (arith, ap length (append_on [] ks ls), length_on (decode tree ks) ls);
    same = λ p d l. ap (λ ts. get_or ts p d) (append_on [] ks ls) ∙ kept_on (decode tree ks) ls p d l;
  }

module _ {K T : Type 0} {tree : List T → K → T} {below : ℕ → K → Type 0} {proper : T → Type 0} (readable : Readable tree below proper) where
  below_length : (ks : List K) (k : K) → below (length ks) k → below (length (decode tree ks)) k
  below_length ks k l = subst (λ n. below n k) (sym (length_decode tree ks)) l

  -- a key means over more places what it means over those that it can name
  local_push : (ks : List K) (k x : K) → below (length ks) x → tree (decode tree (ks ++ (k ∷ []))) x ≡ tree (decode tree ks) x
  local_push ks k x l =
      ap (λ ts. tree ts x) (decode_push tree ks k)
      ∙ readable.local (decode tree ks) (tree (decode tree ks) k ∷ []) x (below_length ks x l)

  -- what stands at a place is what its key means over all places
  pub decode_at : (ks : List K) → Rooted below ks → (p : ℕ) (d : T) (e : K) → p < length ks → get_or (decode tree ks) p d ≡ tree (decode tree ks) (get_or ks p e)
  decode_at =
      push_induction (λ ks. Rooted below ks → (p : ℕ) (d : T) (e : K) → p < length ks → get_or (decode tree ks) p d ≡ tree (decode tree ks) (get_or ks p e))
      (λ rooted p d e l. let f : ⊥ = omega arith in absurd f)
      (λ ks k ih rooted p d e l.
      let ds = decode tree ks in
      let t = tree ds k in
      let front = places_front ks k below rooted in
      places_push ks k (λ q x. get_or (decode tree (ks ++ (k ∷ []))) q d ≡ tree (decode tree (ks ++ (k ∷ []))) x)
      (λ q c h.
      ap (λ ts. get_or ts q d) (decode_push tree ks k)
      ∙ get_or_append_left ds (t ∷ []) d q (omega (arith, length_decode tree ks))
      ∙ ih front q d c h
      ∙ sym (local_push ks k (get_or ks q c) (readable.rises q (length ks) (get_or ks q c) (omega arith) (front q c h))))
      (ap (λ ts. get_or ts (length ks) d) (decode_push tree ks k) ∙ get_or_push ds t d (length ks) (length_decode tree ks) ∙ sym (local_push ks k k (places_last ks k below rooted)))
      p e l)

  -- what keys mean is proper
  pub decode_each : (ks : List K) → Rooted below ks → Each proper (decode tree ks)
  decode_each =
      push_induction (λ ks. Rooted below ks → Each proper (decode tree ks))
      (λ rooted. subst (Each proper) (sym (decode_none tree)) (λ i d l. let f : ⊥ = omega arith in absurd f))
      (λ ks k ih rooted.
      let ds = decode tree ks in
      let each = ih (places_front ks k below rooted) in
      subst (Each proper) (sym (decode_push tree ks k))
      (places_push ds (tree ds k) (λ i t. proper t) each (readable.makes ds k each (below_length ks k (places_last ks k below rooted)))))

  -- an absent key means something that is absent
  absent_from : (ks : List K) (k : K) → Rooted below ks → Apart (decode tree ks) → below (length ks) k → Absent ks k → Absent (decode tree ks) (tree (decode tree ks) k)
  absent_from ks k rooted apart l absent i d h e =
      let h' : i < length ks = omega (arith, length_decode tree ks) in
      let x = get_or ks i k in
      let lx = readable.rises i (length ks) x (omega arith) (rooted i k h') in
      absent i k h'
      (readable.tells (decode tree ks) x k (decode_each ks rooted) apart (below_length ks x lx) (below_length ks k l) (sym (decode_at ks rooted i d k h') ∙ e))

  -- different keys mean different things
  pub decode_apart : (ks : List K) → Rooted below ks → Apart ks → Apart (decode tree ks)
  decode_apart =
      push_induction (λ ks. Rooted below ks → Apart ks → Apart (decode tree ks))
      (λ rooted apart. subst Apart (sym (decode_none tree)) (λ i j d l m. omega arith))
      (λ ks k ih rooted apart.
      let front = places_front ks k below rooted in
      let apart' = ih front (apart_front ks k apart) in
      subst Apart (sym (decode_push tree ks k))
      (apart_push (decode tree ks) (tree (decode tree ks) k) apart' (absent_from ks k front apart' (places_last ks k below rooted) (apart_last ks k apart))))

  module _ (ks : List K) (k : K) (rooted : Rooted below ks) (apart : Apart ks) (l : below (length ks) k) where
    pub decode_absent : Absent ks k → Absent (decode tree ks) (tree (decode tree ks) k)
    decode_absent = absent_from ks k rooted (decode_apart ks rooted apart) l

    pub decode_stands : (i : ℕ) → Stands ks k i → Stands (decode tree ks) (tree (decode tree ks) k) i
    decode_stands i stands = record {
      within = omega (arith, length_decode tree ks, stands.within);
      here = λ d. decode_at ks rooted i d k stands.within ∙ ap (tree (decode tree ks)) (stands.here k);
    }

    -- to intern a key is to intern what it means
    pub decode_interned : (cap : ℕ) (r : Result ℕ Full) (ks' : List K) → Interned cap ks k r ks' → Interned cap (decode tree ks) (tree (decode tree ks) k) r (decode tree ks')
    decode_interned cap (Ok i) ks' placed =
        let ds = decode tree ks in
        let t = tree ds k in
        ⊎_elim (λ (e : ks' ≡ ks).
        let stands = decode_stands i (subst (λ xs. Stands xs k i) e placed.stands) in
        subst (λ xs. Placed cap ds t i (decode tree xs)) (sym e) (placed_old cap stands (only_apart (decode_apart ks rooted apart) stands)))
        (λ (a : Appended cap ks k i ks').
        placed_new cap ds t i (decode tree ks') (ap (decode tree) a.more ∙ decode_push tree ks k) (a.last ∙ sym (length_decode tree ks)) a.free (decode_absent a.absent))
        placed.change
    decode_interned cap (Err e) ks' refused = record {
      full = omega (arith, refused.full, length_decode tree ks);
      absent = decode_absent refused.absent;
      same = ap (decode tree) refused.same;
    }

  -- keys that name only earlier places stay so
  pub rooted_push : (ks : List K) (k : K) → Rooted below ks → below (length ks) k → Rooted below (ks ++ (k ∷ []))
  rooted_push ks k = places_push ks k below

pub decodes : (K T : Type 0) → Decodes K T
decodes K T tree ks ls k = (decode_push tree ks k, length_decode tree ks, decode_kept tree ks ls)

pub separates : (K T : Type 0) → Separates K T
separates K T tree below proper readable = decode_apart readable

pub lifts : (K T : Type 0) → Lifts K T
lifts K T tree below proper readable cap ks k r ks' rooted apart l = decode_interned readable ks k rooted apart l cap r ks'
