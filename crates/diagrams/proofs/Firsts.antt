-- The first group below a limit: of a node it is one with its member, if there is any, or else one without.
use Rattle.std.proofs.Common.{◌≡◌, ℕ, zero, suc, ◌+◌, ◌-◌, ◌<◌, Bool, true, false, cond, ltb, List, [], ◌∷◌, ◌++◌, map, length, Some, None, Option, sym, refl, ap, ◌∙◌, subst, arith}
use Rattle.std.proofs.lemmas.Bool.{ltb-true, lt-ltb, le-ltb}
use Rattle.interning.specs.Model.{held}
use Rattle.interning.specs.Places.{Stands}
use Rattle.interning.proofs.Decode.{length_decode}
use Rattle.memos.specs.declared.diagram.Diagram.{Diagram}
use Rattle.memos.specs.declared.diagram.View.{View}
use Rattle.memos.specs.declared.diagram.View.TheVariants.{Node as Place}
use Rattle.memos.specs.Diagrams.{named, seen}
use Rattle.families.specs.Groups.{weight, is_member}
use Rattle.families.specs.Trees.{Tree, none, node, groups}
use Rattle.families.specs.Good.{Proper}
use Rattle.families.proofs.Bools.{same_tests}
use Rattle.families.proofs.Weights.{is_member_lem}
use Rattle.diagrams.specs.declared.node.Node.{Node}
use Rattle.diagrams.specs.declared.nodes.NodeMemory.{NodeMemory}
use Rattle.diagrams.specs.NodeKeys.{Below, tree_of, tree_at, node_tree}
use Rattle.diagrams.specs.Memory.{trees}
use Rattle.diagrams.specs.Building.{Denotes}
use Rattle.diagrams.specs.Listing.{first_below}
use Rattle.diagrams.proofs.Memories.{memory_proper, place_names, place_tree, place_within}

abbrev pub or_else : Option ℕ → Option ℕ → Option ℕ
or_else (Some g) o = Some g
or_else None o = o

abbrev pub plus : ℕ → Option ℕ → Option ℕ
plus w (Some g) = Some (w + g)
plus w None = None

pub first_zero : (gs : List ℕ) → None ≡ first_below 0 gs
first_zero [] = refl
first_zero (g ∷ gs) = sym (ap (λ b. cond b (Some g) (first_below 0 gs)) (le-ltb g 0 (omega arith)) ∙ sym (first_zero gs))

cond_or : (b : Bool) (x : ℕ) (a c o : Option ℕ) → a ≡ or_else c o → cond b (Some x) a ≡ or_else (cond b (Some x) c) o
cond_or true x a c o e = refl
cond_or false x a c o e = e

first_append : (n : ℕ) (xs ys : List ℕ) → first_below n (xs ++ ys) ≡ or_else (first_below n xs) (first_below n ys)
first_append n [] ys = refl
first_append n (x ∷ xs) ys = cond_or (ltb x n) x (first_below n (xs ++ ys)) (first_below n xs) (first_below n ys) (first_append n xs ys)

ltb_shift : (w x n : ℕ) → ltb (w + x) n ≡ ltb x (n - w)
ltb_shift w x n = same_tests (ltb (w + x) n) (ltb x (n - w)) (λ e. lt-ltb x (n - w) (omega (arith, ltb-true (w + x) n e))) (λ e. lt-ltb (w + x) n (omega (arith, ltb-true x (n - w) e)))

cond_plus : (b : Bool) (w x : ℕ) (a c : Option ℕ) → a ≡ plus w c → cond b (Some (w + x)) a ≡ plus w (cond b (Some x) c)
cond_plus true w x a c e = refl
cond_plus false w x a c e = e

first_map : (n w : ℕ) (xs : List ℕ) → first_below n (map (λ x. w + x) xs) ≡ plus w (first_below (n - w) xs)
first_map n w [] = refl
first_map n w (x ∷ xs) =
    ap (λ b. cond b (Some (w + x)) (first_below n (map (λ y. w + y) xs))) (ltb_shift w x n)
    ∙ cond_plus (ltb x (n - w)) w x (first_below n (map (λ y. w + y) xs)) (first_below (n - w) xs) (first_map n w xs)

pub first_node : (n v : ℕ) (l h : Tree) → first_below n (groups (node v l h)) ≡ or_else (plus (weight v) (first_below (n - weight v) (groups h))) (first_below n (groups l))
first_node n v l h = first_append n (map (λ x. weight v + x) (groups h)) (groups l) ∙ ap (λ o. or_else o (first_below n (groups l))) (first_map n (weight v) (groups h))

pub first_less : (n g : ℕ) (xs : List ℕ) → Some g ≡ first_below n xs → g < n
first_less n g [] e = let no_way : ◌≡◌ {A = ℕ} 0 1 = cc in absurd (omega arith)
first_less n g (x ∷ xs) e = go (ltb x n) refl e (first_less n g xs)
  where
    go : (b : Bool) → ltb x n ≡ b → Some g ≡ cond b (Some x) (first_below n xs) → (Some g ≡ first_below n xs → g < n) → g < n
    go true is s later = let same : g ≡ x = cc in omega (arith, ltb-true x n is)
    go false is s later = later s

-- what `bit` tells of a member
pub bit_weight : (o : Option ℕ) (u v w : ℕ) → o ≡ Some w → o ≡ cond (is_member u) (Some (weight u)) None → u ≡ v → is_member v ≡ true → w ≡ weight v
bit_weight o u v w some is same member =
    let all : Some w ≡ Some (weight v) = sym some ∙ is ∙ ap (λ x. cond (is_member x) (Some (weight x)) None) same ∙ ap (λ b. cond b (Some (weight v)) None) member in
    cc

pub bit_some : (o : Option ℕ) (u v : ℕ) → o ≡ None → o ≡ cond (is_member u) (Some (weight u)) None → u ≡ v → is_member v ≡ true → ⊥
bit_some o u v nothing is same member =
    let all : None ≡ Some (weight v) = sym nothing ∙ is ∙ ap (λ x. cond (is_member x) (Some (weight x)) None) same ∙ ap (λ b. cond b (Some (weight v)) None) member in
    let no_way : ◌≡◌ {A = ℕ} 0 1 = cc in omega arith

-- the tree of a diagram, by what it is
pub denoted : (ts : List Tree) (d : Diagram) (v : View) (t : Tree) → v ≡ seen d → Denotes ts d t → tree_of ts v ≡ t
denoted ts d v t e den = ap (tree_of ts) e ∙ den.is

-- the parts of a node have smaller names
name_falls : (m n p : ℕ) → Place p ≡ named m → Below p (named n) → n < m
name_falls zero n p e b = let no_way : ◌≡◌ {A = ℕ} 0 1 = cc in absurd (omega arith)
name_falls (suc zero) n p e b = let no_way : ◌≡◌ {A = ℕ} 0 1 = cc in absurd (omega arith)
name_falls (suc (suc m)) zero p e b = omega arith
name_falls (suc (suc m)) (suc zero) p e b = omega arith
name_falls (suc (suc m)) (suc (suc n)) p e b = let same : p ≡ m = cc in omega arith

-- the member of a node is one
pub member_stands : (m : NodeMemory) (p : ℕ) (k : Node) → Stands (held m.interner) k p → is_member k.member ≡ true
member_stands m p k stands =
    let within : p < length (trees m) = omega (arith, stands.within, length_decode node_tree (held m.interner)) in
    let proper = subst Proper (place_tree m p k none stands) (memory_proper m p none within) in
    is_member_lem k.member proper.good.fits.1

module _ (m : NodeMemory) (d : Diagram) (p : ℕ) (k : Node) (is : Place p ≡ seen d) (stands : Stands (held m.interner) k p) where
  pub low_falls : k.low.code < d.code
  low_falls = name_falls d.code k.low.code p is (place_names m p k stands).0

  pub high_falls : k.high.code < d.code
  high_falls = name_falls d.code k.high.code p is (place_names m p k stands).1

  pub low_denotes : Denotes (trees m) k.low (tree_at (trees m) k.low)
  low_denotes = record { within = (place_within m p k stands).0; is = refl }

  pub high_denotes : Denotes (trees m) k.high (tree_at (trees m) k.high)
  high_denotes = record { within = (place_within m p k stands).1; is = refl }

  pub member_held : is_member k.member ≡ true
  member_held = member_stands m p k stands

  -- the first group below a limit that has the member
  pub first_high : (n w x : ℕ) (o : Option ℕ) → w ≡ weight k.member → x ≡ n - w → o ≡ first_below x (groups (tree_at (trees m) k.high)) → o ≡ first_below (n - weight k.member) (groups (tree_at (trees m) k.high))
  first_high n w x o e f is = is ∙ ap (λ y. first_below y (groups (tree_at (trees m) k.high))) (f ∙ ap (λ y. n - y) e)

  -- the first group below a limit, from those of the two parts
  pub first_parts : (n : ℕ) (o : Option ℕ) (t : Tree) → Denotes (trees m) d t → o ≡ first_below (n - weight k.member) (groups (tree_at (trees m) k.high)) → or_else (plus (weight k.member) o) (first_below n (groups (tree_at (trees m) k.low))) ≡ first_below n (groups t)
  first_parts n o t den e =
      ap (λ x. or_else (plus (weight k.member) x) (first_below n (groups (tree_at (trees m) k.low)))) e
      ∙ sym (first_node n k.member (tree_at (trees m) k.low) (tree_at (trees m) k.high))
      ∙ ap (λ s. first_below n (groups s)) (sym (place_tree m p k none stands) ∙ denoted (trees m) d (Place p) t is den)
