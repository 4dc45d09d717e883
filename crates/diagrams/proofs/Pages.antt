-- Pages: the groups that are written, and those that are still to come.
use Rattle.std.proofs.Common.{◌≡◌, ℕ, zero, suc, ◌+◌, ◌-◌, ◌*◌, ◌<◌, ◌≤◌, cond, ltb, List, [], ◌∷◌, ◌++◌, length, take, drop, sym, refl, ap, ◌∙◌, subst, append_assoc, add-one, arith, length-drop, length-take}
use borrow.Rule.Slice.PartMut.{put_mid}
use Rattle.std.proofs.lemmas.List.{take_all, take_at, drop-drop}
use Rattle.std.proofs.lemmas.Slice.{drop-append-drop}
use Rattle.std.proofs.lemmas.List.Elements.{filter-append}
use Rattle.std.proofs.lemmas.Bool.{lt-ltb}
use Rattle.diagrams.specs.Listing.{group_bytes, below, page, page_bytes, Listed}

-- i groups of gs below n are written, and those of `rest` below n are still to come
pub record Paged (n : ℕ) (gs bytes : List ℕ) (i : ℕ) (rest bytes' : List ℕ) : Type 0 where
  pub later : drop i (below n gs) ≡ below n rest
  pub enough : i ≤ length (below n gs)
  pub written : bytes' ≡ page_bytes (take i (below n gs)) ++ drop (8 * i) bytes

pub paged_start : (n : ℕ) (gs bytes : List ℕ) → Paged n gs bytes 0 gs bytes
paged_start n gs bytes = record { later = refl; enough = omega arith; written = refl }

-- a list from i on, one further
next : (xs : List ℕ) (i g : ℕ) (rest : List ℕ) → drop i xs ≡ g ∷ rest → (take (suc i) xs ≡ take i xs ++ (g ∷ [])) × (drop (suc i) xs ≡ rest) × (i < length xs)
next [] zero g rest e = let no_way : ◌≡◌ {A = ℕ} 0 1 = cc in absurd (omega arith)
next [] (suc i) g rest e = let no_way : ◌≡◌ {A = ℕ} 0 1 = cc in absurd (omega arith)
next (x ∷ xs) zero g rest e = (ap (λ y. y ∷ []) (let same : x ≡ g = cc in same), (let same : xs ≡ rest = cc in same), omega arith)
next (x ∷ xs) (suc i) g rest e = let r = next xs i g rest e in (ap (λ l. x ∷ l) r.0, r.1, omega (arith, r.2))

bytes_push : (gs : List ℕ) (g : ℕ) → page_bytes (gs ++ (g ∷ [])) ≡ page_bytes gs ++ group_bytes g
bytes_push [] g = refl
bytes_push (x ∷ xs) g = ap (λ l. group_bytes x ++ l) (bytes_push xs g)

length_bytes : (gs : List ℕ) → length (page_bytes gs) ≡ 8 * length gs
length_bytes [] = refl
length_bytes (x ∷ xs) = omega (arith, length_bytes xs)

-- eight bytes written over others
pub put_mid_is : (at : ℕ) (xs ys bs : List ℕ) → ys ≡ bs → put_mid at (at + 8 - at) xs ys ≡ take at xs ++ (bs ++ drop (at + 8) xs)
put_mid_is at xs ys bs e =
    let same : at + (at + 8 - at) ≡ at + 8 = omega arith in
    ap (λ z. take at xs ++ (z ++ drop (at + 8 - at) (drop at xs))) e ∙ ap (λ z. take at xs ++ (bs ++ z)) (drop-drop (at + 8 - at) at xs ∙ ap (λ k. drop k xs) same)

module _ {n : ℕ} {gs bytes : List ℕ} {i : ℕ} {rest b : List ℕ} (paged : Paged n gs bytes i rest b) where
  taken : length (take i (below n gs)) ≡ i
  taken = omega (arith, length-take i (below n gs), paged.enough)

  -- where the page is full
  pub paged_all : (room : ℕ) → i ≡ room → Listed (page n room gs) bytes b i
  paged_all room e = subst (λ r. Listed (page n r gs) bytes b i) e (record {
    written = paged.written ∙ ap (λ k. page_bytes (take i (below n gs)) ++ drop (8 * k) bytes) (sym taken);
    count = sym taken;
  })

  -- where nothing is left
  pub paged_ended : (room : ℕ) → i ≤ room → rest ≡ [] → Listed (page n room gs) bytes b i
  paged_ended room l empty =
      let ended : length (drop i (below n gs)) ≡ 0 = ap length (paged.later ∙ ap (below n) empty) in
      let few : length (below n gs) ≤ i = omega (arith, length-drop i (below n gs)) in
      let same : take i (below n gs) ≡ page n room gs = take_all i (below n gs) few ∙ sym (take_all room (below n gs) (omega arith)) in
      record {
        written = paged.written ∙ (λ j. page_bytes (same j) ++ drop (8 * i) bytes) ∙ ap (λ k. page_bytes (page n room gs) ++ drop (8 * k) bytes) (sym (sym (ap length same) ∙ taken));
        count = sym (sym (ap length same) ∙ taken);
      }

-- the first of what is to come, xs, is none or one group below n
module _ {n : ℕ} {gs bytes : List ℕ} {i : ℕ} (xs rest : List ℕ) {b : List ℕ} (paged : Paged n gs bytes i (xs ++ rest) b) where
  first_later : (ys : List ℕ) → below n xs ≡ ys → drop i (below n gs) ≡ ys ++ below n rest
  first_later ys e = paged.later ∙ filter-append (λ g. ltb g n) xs rest ∙ ap (λ zs. zs ++ below n rest) e

  -- none
  pub paged_skip : below n xs ≡ [] → Paged n gs bytes i rest b
  paged_skip e = record { later = first_later [] e; enough = paged.enough; written = paged.written }

  -- one, which is written
  module _ (g : ℕ) (one : xs ≡ g ∷ []) (small : g < n) (b' : List ℕ) (put : b' ≡ take (i * 8) b ++ (group_bytes g ++ drop (i * 8 + 8) b)) where
    further : (take (suc i) (below n gs) ≡ take i (below n gs) ++ (g ∷ [])) × (drop (suc i) (below n gs) ≡ below n rest) × (i < length (below n gs))
    further = next (below n gs) i g (below n rest) (first_later (g ∷ []) (ap (below n) one ∙ ap (λ t. cond t (g ∷ []) []) (lt-ltb g n small)))

    put_over : (a d : List ℕ) → length a ≡ 8 * i → d ≡ drop (8 * i) bytes → take (i * 8) (a ++ d) ++ (group_bytes g ++ drop (i * 8 + 8) (a ++ d)) ≡ (a ++ group_bytes g) ++ drop (8 * (i + 1)) bytes
    put_over a d long is =
        let same : i * 8 + 8 ≡ 8 * (i + 1) = omega arith in
        ap (λ z. z ++ (group_bytes g ++ drop (i * 8 + 8) (a ++ d))) (take_at a d (i * 8) (omega arith))
        ∙ ap (λ z. a ++ (group_bytes g ++ z)) (ap (λ z. drop (i * 8 + 8) (a ++ z)) is ∙ drop-append-drop (8 * i) bytes a (i * 8 + 8) (omega arith) long ∙ ap (λ k. drop k bytes) same)
        ∙ sym (append_assoc a (group_bytes g) (drop (8 * (i + 1)) bytes))

    pub paged_more : Paged n gs bytes (i + 1) rest b'
    paged_more =
        let a = page_bytes (take i (below n gs)) in
        record {
          later = ap (λ k. drop k (below n gs)) (add-one i) ∙ further.1;
          enough = omega (arith, further.2);
          written = put ∙ ap (λ z. take (i * 8) z ++ (group_bytes g ++ drop (i * 8 + 8) z)) paged.written ∙ put_over a (drop (8 * i) bytes) (omega (arith, length_bytes (take i (below n gs)), taken paged)) refl
              ∙ ap (λ z. z ++ drop (8 * (i + 1)) bytes) (sym (ap (λ k. page_bytes (take k (below n gs))) (add-one i) ∙ ap page_bytes further.0 ∙ bytes_push (take i (below n gs)) g));
        }
