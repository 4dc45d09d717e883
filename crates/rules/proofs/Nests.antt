-- The open lists of a nest, innermost first: how many, one opened, an item more, one taken out.
use Rattle.std.proofs.Common.{◌≡◌, ℕ, ◌+◌, ◌*◌, ◌<◌, ◌≤◌, true, false, ◌&&◌, leb, List, [], ◌∷◌, ◌++◌, reverse, length, take, drop, refl, ap, ◌∙◌, arith}
use Rattle.std.proofs.lemmas.Bool.{and_parts, and_from, eqb-true, leb-true, leb-false, le-leb}
use Rattle.std.proofs.lemmas.List.{length-drop, length-reverse, reverse-append, drop-append-le, take-append-le}
use Rattle.std.proofs.Math.Seq.{drop-length, take-length}
use Rattle.rules.specs.declared.nest.Nest.{Nest}
use Rattle.rules.specs.declared.nest.Opened.{Opened}
use Rattle.rules.specs.declared.words.Head.{Head}
use Rattle.rules.specs.Levels.{levels, levels_in, crowded, added}
use Rattle.rules.specs.Nests.{laid}

pub length_levels : (os : List Opened) (xs : List ℕ) → length (levels_in os xs) ≡ length os
length_levels [] xs = refl
length_levels (o ∷ os) xs = omega (arith, length_levels os (take o.first xs))

pub depth_levels : (n : Nest) → length (levels n) ≡ length n.lists.items
depth_levels n = length_levels (reverse n.lists.items) n.row.items ∙ length-reverse n.lists.items

-- the parts of a row that is laid out
pub laid_parts : (o : Opened) (os : List Opened) (n : ℕ) → laid (o ∷ os) n ≡ true → (o.first ≤ n) × (n ≤ o.first + 64) × (laid os o.first ≡ true)
laid_parts o os n h =
    let a = and_parts (leb o.first n) (leb n (o.first + 64) && laid os o.first) h in
    let b = and_parts (leb n (o.first + 64)) (laid os o.first) a.1 in
    (leb-true o.first n a.0, leb-true n (o.first + 64) b.0, b.1)

pub laid_from : (o : Opened) (os : List Opened) (n : ℕ) → o.first ≤ n → n ≤ o.first + 64 → laid os o.first ≡ true → laid (o ∷ os) n ≡ true
laid_from o os n a b c = and_from (leb o.first n) _ (le-leb o.first n a) (and_from (leb n (o.first + 64)) _ (le-leb n (o.first + 64) b) c)

-- a row has at most 64 items for each list
pub laid_few : (os : List Opened) (n : ℕ) → laid os n ≡ true → n ≤ 64 * length os
laid_few [] n h = let e = eqb-true n 0 h in omega arith
laid_few (o ∷ os) n h = let p = laid_parts o os n h in omega (arith, laid_few os o.first p.2, p.1)

-- a list that is opened has no items
pub levels_open : (os : List Opened) (xs : List ℕ) (h : Head) → levels_in (record { head = h; first = length xs } ∷ os) xs ≡ record { head = h; places = record { items = [] } } ∷ levels_in os xs
levels_open os xs h = ap (λ (ys : List ℕ). record { head = h; places = record { items = ys } } ∷ levels_in os (take (length xs) xs)) (drop-length xs) ∙ ap (λ ys. record { head = h; places = record { items = [] } } ∷ levels_in os ys) (take-length xs)

-- an item more is one of the innermost list
pub levels_add : (os : List Opened) (xs : List ℕ) (p : ℕ) → laid os (length xs) ≡ true → 0 < length os → levels_in os (xs ++ (p ∷ [])) ≡ added p (levels_in os xs)
levels_add [] xs p h some = absurd (omega arith)
levels_add (o ∷ os) xs p h some =
    let low = (laid_parts o os (length xs) h).0 in
    ap (λ (ys : List ℕ). record { head = o.head; places = record { items = ys } } ∷ levels_in os (take o.first (xs ++ (p ∷ [])))) (drop-append-le o.first xs (p ∷ []) low)
    ∙ ap (λ ys. record { head = o.head; places = record { items = drop o.first xs ++ (p ∷ []) } } ∷ levels_in os ys) (take-append-le o.first xs (p ∷ []) low)

-- and there is room for it where that has fewer than 64
pub laid_add : (os : List Opened) (xs : List ℕ) → laid os (length xs) ≡ true → 0 < length os → crowded (levels_in os xs) ≡ false → laid os (length xs + 1) ≡ true
laid_add [] xs h some room = absurd (omega arith)
laid_add (o ∷ os) xs h some room =
    let p = laid_parts o os (length xs) h in
    let few = leb-false 64 (length (drop o.first xs)) room in
    laid_from o os (length xs + 1) (omega (arith, p.0)) (omega (arith, p.0, few, length-drop o.first xs)) p.2

-- the last list of a stack is its innermost one
pub reverse_push : (os : List Opened) (o : Opened) → reverse (os ++ (o ∷ [])) ≡ o ∷ reverse os
reverse_push os o = reverse-append os (o ∷ [])
