-- The first group that shares no member with a given one: of a node it is one with its member, if that is left out and high has any, or else one without.
use Rattle.std.proofs.Common.{◌≡◌, ℕ, ◌+◌, ◌^◌, ◌<◌, Bool, true, false, cond, ◌&&◌, ◌||◌, eqb, ◌↔◌, List, [], ◌∷◌, ◌++◌, map, length, Some, None, Option, sym, refl, ap, ◌∙◌, arith}
use lib.Bits.{bit_and, and_le_r}
use Rattle.std.specs.List.{AllByRecursion}
use Rattle.std.proofs.lemmas.Bool.{eqb-true, eq-eqb, and_from, and_parts, both_ways}
use Rattle.interning.specs.Model.{held}
use Rattle.interning.specs.Places.{Stands}
use Rattle.memos.specs.declared.diagram.Diagram.{Diagram}
use Rattle.memos.specs.declared.diagram.View.TheVariants.{Node as Place}
use Rattle.memos.specs.Diagrams.{seen}
use Rattle.families.specs.Sets.{Meet}
use Rattle.families.specs.Groups.{Member, holds, is_member, weight}
use Rattle.families.specs.Trees.{Tree, none, node, groups}
use Rattle.families.specs.Good.{Good}
use Rattle.families.proofs.Bools.{same_tests, or_false, refute}
use Rattle.families.proofs.Common.{holds_and}
use Rattle.families.proofs.Listing.{groups_below}
use Rattle.families.proofs.Numbers.{holds_same}
use Rattle.families.proofs.Weights.{holds_add, holds_zero, is_member_lem, weight_of, weight_pos, weight_step}
use Rattle.diagrams.specs.declared.node.Node.{Node}
use Rattle.diagrams.specs.declared.nodes.NodeMemory.{NodeMemory}
use Rattle.diagrams.specs.NodeKeys.{tree_at, node_tree}
use Rattle.diagrams.specs.Memory.{trees}
use Rattle.diagrams.specs.Building.{Denotes, NamedNode}
use Rattle.diagrams.specs.Avoiding.{apart, first_avoiding, found, has_avoiding}
use Rattle.diagrams.specs.Folding.{Folded, value_at}
use Rattle.diagrams.proofs.Firsts.{bit_some, bit_weight, denoted, high_denotes, high_falls, low_denotes, low_falls, or_else, plus}
use Rattle.diagrams.proofs.Folds.{node_good, value_right}
use Rattle.diagrams.proofs.Memories.{place_tree}
use Rattle.diagrams.proofs.Opened.{place_of}

-- no common bit is no common member
apart_free : (g n : ℕ) → apart g n ≡ true → (v : ℕ) → (holds g v && holds n v) ≡ false
apart_free g n e v = sym (holds_and g n v) ∙ ap (λ z. holds z v) (eqb-true (bit_and g n) 0 e) ∙ holds_zero v

free_apart : (g n : ℕ) → n < 2 ^ 48 → ((v : ℕ) → (holds g v && holds n v) ≡ false) → apart g n ≡ true
free_apart g n q free =
    let few = and_le_r g n in
    eq-eqb (bit_and g n) 0 (holds_same (bit_and g n) 0 (omega arith) (omega arith) (λ v. holds_and g n v ∙ free v ∙ sym (holds_zero v)))

pub apart_members : (g n : ℕ) → n < 2 ^ 48 → (apart g n ≡ true) ↔ (Meet (holds g) (holds n) → ⊥)
apart_members g n q = (
  (λ e r. both_ways (holds g r.0 && holds n r.0) (apart_free g n e r.0) (and_from (holds g r.0) (holds n r.0) r.1 r.2)),
  λ never. free_apart g n q (λ v. refute (holds g v && holds n v) (λ e. let p = and_parts (holds g v) (holds n v) e in never (v, p.0, p.1))),
)

only_weight : (v u : ℕ) → Member v → holds (weight v) u ≡ eqb u v
only_weight v u p =
    let e : weight v ≡ weight v + 0 = omega arith in
    ap (λ z. holds z u) e ∙ holds_add 0 v u p (weight_pos v) ∙ sym (or_false (eqb u v) (holds 0 u) (holds_zero u))

left_free : (g e n s w : Bool) → w ≡ e → s ≡ (e || n) → (g && s) ≡ false → (g && w) ≡ false
left_free g e n s w a b c = grind arith

right_free : (g e n s : Bool) → s ≡ (e || n) → (g && s) ≡ false → (g && n) ≡ false
right_free g e n s b c = grind arith

both_free : (g e n s w : Bool) → w ≡ e → s ≡ (e || n) → (g && w) ≡ false → (g && n) ≡ false → (g && s) ≡ false
both_free g e n s w a b c d = grind arith

weight_few : (v n : ℕ) → Member v → n < weight v → weight v + n < 2 ^ 48
weight_few v n p h = let s = weight_step 0 v p.0 p.1 in let e = weight_of 48 (omega arith) in omega arith

apart_add : (g v n : ℕ) → Member v → n < weight v → apart g (weight v + n) ≡ (apart g (weight v) && apart g n)
apart_add g v n p h =
    let few = weight_few v n p h in
    same_tests (apart g (weight v + n)) (apart g (weight v) && apart g n)
    (λ e. and_from (apart g (weight v)) (apart g n)
    (free_apart g (weight v) (omega arith) (λ u. left_free (holds g u) (eqb u v) (holds n u) (holds (weight v + n) u) (holds (weight v) u) (only_weight v u p) (holds_add n v u p h) (apart_free g (weight v + n) e u)))
    (free_apart g n (omega arith) (λ u. right_free (holds g u) (eqb u v) (holds n u) (holds (weight v + n) u) (holds_add n v u p h) (apart_free g (weight v + n) e u))))
    (λ e. let both = and_parts (apart g (weight v)) (apart g n) e in
    free_apart g (weight v + n) few (λ u. both_free (holds g u) (eqb u v) (holds n u) (holds (weight v + n) u) (holds (weight v) u) (only_weight v u p) (holds_add n v u p h) (apart_free g (weight v) both.0 u) (apart_free g n both.1 u)))

cond_or : (b : Bool) (x : ℕ) (a c o : Option ℕ) → a ≡ or_else c o → cond b (Some x) a ≡ or_else (cond b (Some x) c) o
cond_or true x a c o e = refl
cond_or false x a c o e = e

first_append : (g : ℕ) (xs ys : List ℕ) → first_avoiding g (xs ++ ys) ≡ or_else (first_avoiding g xs) (first_avoiding g ys)
first_append g [] ys = refl
first_append g (x ∷ xs) ys = cond_or (apart g x) x (first_avoiding g (xs ++ ys)) (first_avoiding g xs) (first_avoiding g ys) (first_append g xs ys)

-- the first of some groups with one member more: none where that is in the given group
abbrev with_member : Bool → ℕ → Option ℕ → Option ℕ
with_member a w o = cond a (plus w o) None

with_none : (a : Bool) (w : ℕ) → None ≡ with_member a w None
with_none true w = refl
with_none false w = refl

with_more : (a b : Bool) (w x : ℕ) (o : Option ℕ) → cond (a && b) (Some (w + x)) (with_member a w o) ≡ with_member a w (cond b (Some x) o)
with_more true true w x o = refl
with_more true false w x o = refl
with_more false b w x o = refl

first_map : (g v : ℕ) → Member v → (xs : List ℕ) → AllByRecursion (λ n. n < weight v) xs → first_avoiding g (map (λ x. weight v + x) xs) ≡ with_member (apart g (weight v)) (weight v) (first_avoiding g xs)
first_map g v p [] all = with_none (apart g (weight v)) (weight v)
first_map g v p (x ∷ xs) all =
    ap (λ b. cond b (Some (weight v + x)) (first_avoiding g (map (λ y. weight v + y) xs))) (apart_add g v x p all.0)
    ∙ ap (λ o. cond (apart g (weight v) && apart g x) (Some (weight v + x)) o) (first_map g v p xs all.1)
    ∙ with_more (apart g (weight v)) (apart g x) (weight v) x (first_avoiding g xs)

first_node : (g v : ℕ) (l h : Tree) → Member v → AllByRecursion (λ n. n < weight v) (groups h) → first_avoiding g (groups (node v l h)) ≡ or_else (with_member (apart g (weight v)) (weight v) (first_avoiding g (groups h))) (first_avoiding g (groups l))
first_node g v l h p all = first_append g (map (λ x. weight v + x) (groups h)) (groups l) ∙ ap (λ o. or_else o (first_avoiding g (groups l))) (first_map g v p (groups h) all)

-- what is found keeps a bound of the list
first_less : (g n w : ℕ) (xs : List ℕ) → AllByRecursion (λ x. x < w) xs → Some n ≡ first_avoiding g xs → n < w
first_less g n w [] all e = let no_way : ◌≡◌ {A = ℕ} 0 1 = cc in absurd (omega arith)
first_less g n w (x ∷ xs) all e = go (apart g x) e (first_less g n w xs all.1)
  where
    go : (b : Bool) → Some n ≡ cond b (Some x) (first_avoiding g xs) → (Some n ≡ first_avoiding g xs → n < w) → n < w
    go true s later = let same : n ≡ x = cc in omega (arith, all.0)
    go false s later = later s

found_parts : (a : Bool) (w : ℕ) (h l : Option ℕ) → (found l || (a && found h)) ≡ found (or_else (with_member a w h) l)
found_parts true w (Some x) (Some y) = refl
found_parts true w (Some x) None = refl
found_parts true w None (Some y) = refl
found_parts true w None None = refl
found_parts false w h (Some y) = refl
found_parts false w h None = refl

pick_high : (a : Bool) (w n : ℕ) (h l : Option ℕ) → a ≡ true → Some n ≡ h → Some (w + n) ≡ or_else (with_member a w h) l
pick_high a w n h l e f = ap (λ o. or_else (plus w o) l) f ∙ ap (λ b. or_else (with_member b w h) l) (sym e)

pick_barred : (a : Bool) (w : ℕ) (h l : Option ℕ) → a ≡ false → l ≡ or_else (with_member a w h) l
pick_barred a w h l e = ap (λ b. or_else (with_member b w h) l) (sym e)

pick_low : (a : Bool) (w : ℕ) (h l : Option ℕ) → found h ≡ false → l ≡ or_else (with_member a w h) l
pick_low true w (Some x) l e = absurd (both_ways true e refl)
pick_low true w None l e = refl
pick_low false w h l e = refl

-- whether a family's tree has such a group, from whether its two parts have
pub node_found : (g v : ℕ) (l h : Tree) → Good 1 (node v l h) → (has_avoiding g l || ((is_member v && apart g (weight v)) && has_avoiding g h)) ≡ has_avoiding g (node v l h)
node_found g v l h good =
    ap (λ b. has_avoiding g l || ((b && apart g (weight v)) && has_avoiding g h)) (is_member_lem v good.fits.1)
    ∙ found_parts (apart g (weight v)) (weight v) (first_avoiding g (groups h)) (first_avoiding g (groups l))
    ∙ ap found (sym (first_node g v l h good.fits.1 (groups_below v h good.high)))

-- the node of a diagram
module _ (m : NodeMemory) (d : Diagram) (k : Node) (named : NamedNode (held m.interner) (seen d) (Some k)) where
  abbrev at : (p : ℕ) × (Place p ≡ seen d) × Stands (held m.interner) k p
  at = place_of (held m.interner) (seen d) k named

  abbrev low : Tree
  low = tree_at (trees m) k.low

  abbrev high : Tree
  high = tree_at (trees m) k.high

  good : Good 1 (node_tree (trees m) k)
  good = node_good m at.0 k at.2

  high_below : AllByRecursion (λ n. n < weight k.member) (groups high)
  high_below = groups_below k.member high good.high

  -- its parts have smaller names, and denote their trees
  pub named_falls : (k.low.code < d.code) × (k.high.code < d.code)
  named_falls = (low_falls m d at.0 k at.1 at.2, high_falls m d at.0 k at.1 at.2)

  pub named_low : Denotes (trees m) k.low low
  named_low = low_denotes m d at.0 k at.1 at.2

  pub named_high : Denotes (trees m) k.high high
  named_high = high_denotes m d at.0 k at.1 at.2

  -- its member has a weight
  module _ (o : Option ℕ) (u : ℕ) (is : o ≡ cond (is_member u) (Some (weight u)) None) (same : u ≡ k.member) where
    pub named_some : o ≡ None → ⊥
    named_some nothing = bit_some o u k.member nothing is same (is_member_lem k.member good.fits.1)

    pub named_weight : (w : ℕ) → o ≡ Some w → w ≡ weight k.member
    named_weight w some = bit_weight o u k.member w some is same (is_member_lem k.member good.fits.1)

  module _ (g : ℕ) where
    parts : (t : Tree) → Denotes (trees m) d t → or_else (with_member (apart g (weight k.member)) (weight k.member) (first_avoiding g (groups high))) (first_avoiding g (groups low)) ≡ first_avoiding g (groups t)
    parts t den = sym (first_node g k.member low high good.fits.1 high_below) ∙ ap (λ s. first_avoiding g (groups s)) (sym (place_tree m at.0 k none at.2) ∙ denoted (trees m) d (Place at.0) t at.1 den)

    high_told : (bs : List Bool) → Folded (has_avoiding g) (trees m) (length (trees m)) bs → value_at (has_avoiding g) bs (seen k.high) ≡ has_avoiding g high
    high_told bs told = value_right (has_avoiding g) (trees m) (length (trees m)) bs told (seen k.high) named_high.within

    -- where the cells tell of a group on the high side, there is one
    pub high_some : (bs : List Bool) → Folded (has_avoiding g) (trees m) (length (trees m)) bs → (b : Bool) (o : Option ℕ) → b ≡ value_at (has_avoiding g) bs (seen k.high) → b ≡ true → o ≡ first_avoiding g (groups high) → o ≡ None → ⊥
    high_some bs told b o tells passes is nothing = both_ways b (tells ∙ high_told bs told ∙ ap found (sym is ∙ nothing)) passes

    -- a group of the high side with the member fits
    pub sum_few : (w n : ℕ) (o : Option ℕ) → w ≡ weight k.member → o ≡ first_avoiding g (groups high) → o ≡ Some n → w + n < 2 ^ 48
    sum_few w n o e is some =
        let below = first_less g n (weight k.member) (groups high) high_below (sym some ∙ is) in
        omega (arith, e, weight_few k.member n good.fits.1 below)

    module _ (t : Tree) (den : Denotes (trees m) d t) where
      -- the first group is that of high with the member, where the member is left out and high has one
      pub first_high : (w n : ℕ) (a : Bool) (o : Option ℕ) → w ≡ weight k.member → a ≡ apart g w → a ≡ true → o ≡ first_avoiding g (groups high) → o ≡ Some n → Some (w + n) ≡ first_avoiding g (groups t)
      first_high w n a o e tests passes is some =
          ap (λ x. Some (x + n)) e
          ∙ pick_high (apart g (weight k.member)) (weight k.member) n (first_avoiding g (groups high)) (first_avoiding g (groups low)) (ap (apart g) (sym e) ∙ sym tests ∙ passes) (sym some ∙ is)
          ∙ parts t den

      -- it is that of low where the member is not left out
      pub first_barred : (w : ℕ) (a : Bool) (o : Option ℕ) → w ≡ weight k.member → a ≡ apart g w → a ≡ false → o ≡ first_avoiding g (groups low) → o ≡ first_avoiding g (groups t)
      first_barred w a o e tests fails is =
          is ∙ pick_barred (apart g (weight k.member)) (weight k.member) (first_avoiding g (groups high)) (first_avoiding g (groups low)) (ap (apart g) (sym e) ∙ sym tests ∙ fails) ∙ parts t den

      -- and where high has none
      pub first_low : (bs : List Bool) → Folded (has_avoiding g) (trees m) (length (trees m)) bs → (b : Bool) (o : Option ℕ) → b ≡ value_at (has_avoiding g) bs (seen k.high) → b ≡ false → o ≡ first_avoiding g (groups low) → o ≡ first_avoiding g (groups t)
      first_low bs told b o tells fails is =
          is ∙ pick_low (apart g (weight k.member)) (weight k.member) (first_avoiding g (groups high)) (first_avoiding g (groups low)) (sym (high_told bs told) ∙ sym tells ∙ fails) ∙ parts t den
