-- A list laid out in rows, row by row: where a row stands in the list, and the grid's term as two terms of "least of the rows".
use Rattle.std.proofs.Common.{◌≡◌, ℕ, zero, suc, ◌+◌, ◌*◌, ◌/◌, ◌%◌, ◌<◌, ◌≤◌, List, [], ◌∷◌, ◌++◌, map, length, get_or, take, drop, sym, refl, ap, ◌∙◌, subst, ap₂, le_of_suc-le-suc, not-suc-le-zero, mul-le-mul_right, suc-mul, zero-mul, ⊎_elim, arith}
use lib.ListN.{length-map}
use Rattle.std.proofs.lemmas.List.{drop-drop, get_or-map, length-append, length-drop, take_all, take_more}
use Rattle.std.proofs.lemmas.Nat.{le-div}
use Rattle.std.proofs.Math.Seq.{take-append_seam, drop-append_seam}
use Rattle.std.proofs.lemmas.Bool.{cases_lt, eq-eqb}
use Rattle.rules.specs.Building.{Held, AllAt, Adds, Makes}
use Rattle.rules.specs.Expanding.{parts}
use Rattle.rules.specs.Members.{◌⊆◌}
use Rattle.rules.specs.Rules.{cut, rows}
use Rattle.rules.specs.Terms.{Term, both, blank, subterms, all_of, any_of, least_of, grid_of}
use Rattle.rules.proofs.Entries.{in_from_place}
use Rattle.rules.proofs.Grid.{rows_even, drop_rows, take_row}
use Rattle.rules.proofs.Inside.{inside_least}
use Rattle.rules.proofs.LeastOf.{least_of_all, least_of_any}
use Rattle.rules.proofs.Making.{adds_then, adds_makes, makes_adds, all_at_kept, all_at_length, all_at_take, all_at_drop, all_at_push}

pub row_within : (n w r : ℕ) → n % w ≡ 0 → r < n / w → r * w + w ≤ n
row_within n w r h l =
    let all = rows_even n w (eq-eqb (n % w) 0 h) in
    let one = suc-mul r w in
    let more : suc r * w ≤ (n / w) * w = mul-le-mul_right w l in
    omega arith

pub length_cut : {A : Type 0} (r w : ℕ) (xs : List A) → length (cut r w xs) ≡ r
length_cut zero w xs = refl
length_cut (suc r) w xs = ap suc (length_cut r w (drop w xs))

pub row_at : {A : Type 0} (n w r : ℕ) (xs : List A) → r < n → get_or (cut n w xs) r [] ≡ take w (drop (r * w) xs)
row_at zero w r xs l = absurd (not-suc-le-zero l)
row_at (suc n) w zero xs l = ap (λ i. take w (drop i xs)) (sym (zero-mul w))
row_at (suc n) w (suc r) xs l =
    let one = suc-mul r w in
    let q : w + r * w ≡ suc r * w = omega arith in
    row_at n w r (drop w xs) (le_of_suc-le-suc l) ∙ ap (take w) (drop-drop (r * w) w xs ∙ ap (λ i. drop i xs) q)

pub length_parts : (w k : ℕ) (es : List Term) → length (parts w k es) ≡ length es / w
length_parts w k es = length-map (rows w es) (least_of k) ∙ length_cut (length es / w) w es

pub part_at : (w k r : ℕ) (es : List Term) → r < length es / w → get_or (parts w k es) r blank ≡ least_of k (take w (drop (r * w) es))
part_at w k r es l =
    get_or-map (least_of k) (rows w es) r [] blank (subst (λ n. r < n) (sym (length_cut (length es / w) w es)) l) ∙ ap (least_of k) (row_at (length es / w) w r es l)

pub part_inside : (w k j r : ℕ) (es : List Term) → 1 ≤ j → j ≤ length es / w → r < length es / w → subterms (get_or (parts w k es) r blank) ⊆ subterms (least_of j (parts w k es))
part_inside w k j r es low high l =
    let size = length_parts w k es in
    inside_least j (parts w k es) (get_or (parts w k es) r blank) low (omega arith) (in_from_place (parts w k es) r blank (omega arith))

-- of a list of items, the rows whose terms stand at the places of another list, and the items that are left
pub record RowsMade (h h' : Held) (items places left : List ℕ) (w k j : ℕ) : Type 0 where
  pub count : length places ≤ length items / w
  pub rest : left ≡ drop (length places * w) items
  pub made : (es : List Term) → AllAt h items es → Adds h h' (subterms (least_of j (parts w k es))) × AllAt h' places (take (length places) (parts w k es))

-- the next row
row_next : {A : Type 0} (xs ys zs : List A) (n w : ℕ) → ys ++ zs ≡ drop (n * w) xs → length ys ≡ w → (ys ≡ take w (drop (n * w) xs)) × (zs ≡ drop (suc n * w) xs)
row_next xs ys zs n w e long =
    let one = suc-mul n w in
    let next : n * w + w ≡ suc n * w = omega arith in (
      sym (take-append_seam ys zs) ∙ ap (λ m. take m (ys ++ zs)) long ∙ ap (take w) e,
      sym (drop-append_seam ys zs) ∙ ap (λ m. drop m (ys ++ zs)) long ∙ ap (drop w) e ∙ drop-drop w (n * w) xs ∙ ap (λ m. drop m xs) next,
    )

module _ {h h' : Held} {items places whole : List ℕ} {w k j : ℕ} (row left : List ℕ) (cut : whole ≡ row ++ left) (long : length row ≡ w) (some : 1 ≤ w) (r : RowsMade h h' items places whole w k j) where
  -- another row is there
  pub row_fits : suc (length places) * w ≤ length items
  row_fits =
      let one = suc-mul (length places) w in
      omega (arith, ap length (sym cut ∙ r.rest), length-append row left, length-drop (length places * w) items)

  pub count_fits : length places < length items / w
  count_fits = le-div (suc (length places)) (length items) w some row_fits

  pub rows_more : {h'' : Held} (p : ℕ) → 1 ≤ j → j ≤ length items / w → ((es : List Term) → AllAt h' row es → Makes h' h'' p (least_of k es)) → RowsMade h h'' items (places ++ (p ∷ [])) left w k j
  rows_more {h''} p low high makes =
      let n = length places in
      let more = length-append places (p ∷ []) in
      let next = row_next items row left n w (sym cut ∙ r.rest) long in
      record {
        count = omega (arith, count_fits);
        rest = next.1 ∙ ap (λ m. drop (m * w) items) (omega arith);
        made = λ es s.
            let ts = parts w k es in
            let size = length_parts w k es in
            let count = subst (λ m. (j ≤ m / w) × (n < m / w)) (all_at_length h items es s) (high, count_fits) in
            let before = r.made es s in
            let standing = subst (λ ps. AllAt h' ps (take w (drop (n * w) es))) (sym next.0) (all_at_take h' w (drop (n * w) items) (drop (n * w) es) (all_at_drop h' (n * w) items es (all_at_kept before.0 items es s))) in
            let made = subst (Makes h' h'' p) (sym (part_at w k n es count.1)) (makes (take w (drop (n * w) es)) standing) in (
              adds_then before.0 (makes_adds (part_inside w k j n es low count.0 count.1) made),
              subst (AllAt h'' (places ++ (p ∷ []))) (sym (ap (λ m. take m ts) more ∙ take_more ts n blank (omega arith)))
                  (all_at_push h'' places (take n ts) p (get_or ts n blank) (all_at_kept made.adds places (take n ts) before.1) made.at),
            );
      }

-- too few items are left for a row, so each row's term has its place
pub rows_done : {h h' h'' : Held} {items places left : List ℕ} {w k j q : ℕ} → length items % w ≡ 0 → length left < w → RowsMade h h' items places left w k j → (es : List Term) → AllAt h items es → ((ts : List Term) → AllAt h' places ts → Makes h' h'' q (least_of j ts)) → Makes h h'' q (least_of j (parts w k es))
rows_done {h} {h'} {h''} {items} {places} {left} {w} {k} {j} {q} even few r es s makes =
    let ts = parts w k es in
    let before = r.made es s in
    let same : length ts ≡ length items / w = length_parts w k es ∙ ap (λ m. m / w) (sym (all_at_length h items es s)) in
    let full : length ts ≤ length places =
    ⊎_elim (λ (l : length places < length items / w). let within = row_within (length items) w (length places) even l in absurd (omega (arith, ap length r.rest, length-drop (length places * w) items)))
    (λ (g : length items / w ≤ length places). omega arith) (cases_lt (length places) (length items / w)) in
    adds_makes before.0 (makes ts (subst (AllAt h' places) (take_all (length places) ts full) before.1))

rows_all : (r w : ℕ) (es : List Term) → length es ≡ r * w → map (least_of w) (cut r w es) ≡ map all_of (cut r w es)
rows_all zero w es h = refl
rows_all (suc r) w es h =
    ap₂ ◌∷◌ (ap (λ k. least_of k (take w es)) (sym (take_row r w es h)) ∙ least_of_all (take w es)) (rows_all r w (drop w es) (drop_rows r w es h))

rows_any : (ess : List (List Term)) → map (least_of 1) ess ≡ map any_of ess
rows_any [] = refl
rows_any (es ∷ ess) = ap₂ ◌∷◌ (least_of_any es) (rows_any ess)

pub grid_by_parts : (w : ℕ) (es : List Term) → length es % w ≡ 0 → both (least_of 1 (parts w w es)) (least_of (length es / w) (parts w 1 es)) ≡ grid_of w es
grid_by_parts w es h =
    ap₂ both (least_of_any (parts w w es) ∙ ap any_of (rows_all (length es / w) w es (rows_even (length es) w (eq-eqb (length es % w) 0 h))))
    (ap (λ k. least_of k (parts w 1 es)) (sym (length_parts w 1 es)) ∙ least_of_all (parts w 1 es) ∙ ap all_of (rows_any (rows w es)))
