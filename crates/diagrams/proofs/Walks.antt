-- Walking a diagram: at a node the groups of the high side come first, and then those of the low side.
use Rattle.std.proofs.Common.{◌≡◌, ℕ, suc, ◌+◌, ◌^◌, ◌<◌, ◌≤◌, false, ltb, List, [], ◌∷◌, ◌++◌, map, length, sym, refl, ap, ◌∙◌, subst, ⊎_elim, append_assoc, append-nil, arith, length-append}
use Rattle.std.proofs.lemmas.List.{get_or_past}
use Rattle.std.proofs.lemmas.Bool.{cases_lt, le-ltb}
use Rattle.std.specs.List.{AllByRecursion}
use Rattle.interning.specs.Model.{held}
use Rattle.interning.specs.Places.{Stands}
use Rattle.memos.specs.declared.diagram.Diagram.{Diagram}
use Rattle.memos.specs.declared.diagram.View.{View}
use Rattle.memos.specs.declared.diagram.View.TheVariants.{None as Never, Always, Node as Place}
use Rattle.memos.specs.Diagrams.{seen}
use Rattle.families.specs.Groups.{weight}
use Rattle.families.specs.Trees.{Tree, none, groups}
use Rattle.families.specs.Good.{Good}
use Rattle.families.proofs.Kept.{kept_none, map_append}
use Rattle.families.proofs.Weights.{weight_step}
use Rattle.diagrams.specs.declared.node.Node.{Node}
use Rattle.diagrams.specs.declared.nodes.NodeMemory.{NodeMemory}
use Rattle.diagrams.specs.declared.nodes.branch.Branch.{Branch}
use Rattle.diagrams.specs.NodeKeys.{tree_of, tree_at, node_tree}
use Rattle.diagrams.specs.Memory.{trees}
use Rattle.diagrams.specs.Building.{Denotes}
use Rattle.diagrams.specs.Collecting.{nodes_in}
use Rattle.diagrams.specs.Listing.{below}
use Rattle.diagrams.specs.Walking.{AllFit, BranchFits, Forked, branch_groups, steps, to_come}
use Rattle.diagrams.proofs.Pages.{Paged}
use Rattle.diagrams.proofs.Memories.{memory_proper, place_tree}

-- a name past the last place has no group
pub past_nothing : (ts : List Tree) (b : Branch) (p : ℕ) → Place p ≡ seen b.diagram → length ts ≤ p → branch_groups ts b ≡ []
past_nothing ts b p is past = ap (λ t. map (λ n. b.gathered + n) (groups t)) (sym (ap (tree_of ts) is) ∙ get_or_past ts p none past)

map_shift : (a b : ℕ) (xs : List ℕ) → map (λ n. (a + b) + n) xs ≡ map (λ n. a + n) (map (λ n. b + n) xs)
map_shift a b [] = refl
map_shift a b (x ∷ xs) = let e : (a + b) + x ≡ a + (b + x) = omega arith in λ i. e i ∷ map_shift a b xs i

module _ (m : NodeMemory) (b : Branch) (p : ℕ) (k : Node) (is : Place p ≡ seen b.diagram) (stands : Stands (held m.interner) k p) (w : ℕ) (weighs : w ≡ weight k.member) (bs : List Branch) (fits : BranchFits (trees m) (length bs) b) where
  node_is : tree_at (trees m) b.diagram ≡ node_tree (trees m) k
  node_is = sym (ap (tree_of (trees m)) is) ∙ place_tree m p k none stands

  good : Good (suc fits.above) (node_tree (trees m) k)
  good = subst (Good (suc fits.above)) node_is fits.good

  pub fork_deep : length bs < 48
  fork_deep = omega (arith, fits.deep, good.fits)

  small : b.gathered + w + w ≤ 2 ^ 48
  small = omega (arith, weighs, fits.small, weight_step fits.above k.member good.fits.0 good.fits.1.1)

  pub fork_small : b.gathered + w < 2 ^ 64
  fork_small = omega (arith, small)

  abbrev low : Branch
  low = record { diagram = k.low; gathered = b.gathered }

  abbrev high : Branch
  high = record { diagram = k.high; gathered = b.gathered + w }

  forked_same : to_come (trees m) (high ∷ low ∷ bs) ≡ to_come (trees m) (b ∷ bs)
  forked_same =
      let gl = groups (tree_at (trees m) k.low) in
      let gh = groups (tree_at (trees m) k.high) in
      let add = λ (xs : List ℕ). map (λ n. b.gathered + n) xs in
      let rest = to_come (trees m) bs in
      ap (λ xs. xs ++ (add gl ++ rest)) (map_shift b.gathered w gh ∙ ap (λ v. add (map (λ n. v + n) gh)) weighs)
      ∙ sym (append_assoc (add (map (λ n. weight k.member + n) gh)) (add gl) rest)
      ∙ ap (λ xs. xs ++ rest) (sym (map_append (λ n. b.gathered + n) (map (λ n. weight k.member + n) gh) gl) ∙ ap (λ t. add (groups t)) (sym node_is))

  forked_fit : AllFit (trees m) bs → AllFit (trees m) (high ∷ low ∷ bs)
  forked_fit fit =
      let rises : suc (length bs) ≤ k.member = omega (arith, fits.deep, good.fits) in
      (record { above = k.member; deep = rises; good = good.high; small = omega (arith, small, weighs) }, (record { above = k.member; deep = omega arith; good = good.low; small = omega (arith, small, weighs) }, fit))

  forked_fewer : steps (trees m) (high ∷ low ∷ bs) < steps (trees m) (b ∷ bs)
  forked_fewer =
      let l = nodes_in (tree_at (trees m) k.low) in
      let h = nodes_in (tree_at (trees m) k.high) in
      omega (arith, ap (λ t. length (nodes_in t)) node_is, length-append l h)

  pub forked : Forked (trees m) b bs high (low ∷ bs)
  forked = record { same = forked_same; fit = forked_fit; fewer = forked_fewer }

-- what a branch has at or above the limit is not below it
from_limit : (n g : ℕ) (xs : List ℕ) → n ≤ g → AllByRecursion (λ m. ltb m n ≡ false) (map (λ x. g + x) xs)
from_limit n g [] l = tt
from_limit n g (x ∷ xs) l = (le-ltb (g + x) n (omega arith), from_limit n g xs l)

pub beyond : (ts : List Tree) (b : Branch) (n : ℕ) → n ≤ b.gathered → below n (branch_groups ts b) ≡ []
beyond ts b n l = kept_none (λ m. ltb m n) (branch_groups ts b) (from_limit n b.gathered (groups (tree_at ts b.diagram)) l)

-- the walk has come from b above bs to b' above bs'
pub record Descends (ts : List Tree) (b : Branch) (bs : List Branch) (b' : Branch) (bs' : List Branch) : Type 0 where
  pub same : to_come ts (b' ∷ bs') ≡ to_come ts (b ∷ bs)
  pub fit : AllFit ts (b' ∷ bs')
  pub fewer : steps ts (b' ∷ bs') ≤ steps ts (b ∷ bs)

pub descends_on : (ts : List Tree) (b : Branch) (bs : List Branch) (b' : Branch) (bs' : List Branch) (b'' : Branch) (bs'' : List Branch) → Descends ts b bs b' bs' → Forked ts b' bs' b'' bs'' → Descends ts b bs b'' bs''
descends_on ts b bs b' bs' b'' bs'' d f = record { same = f.same ∙ d.same; fit = f.fit d.fit.1; fewer = omega (arith, d.fewer, f.fewer) }

-- the page at a branch b' above bs', from that at the branches xs
module _ {ts : List Tree} {n : ℕ} {gs bytes : List ℕ} {i i' : ℕ} {c c' : List ℕ} {xs : List Branch} {b : Branch} {bs : List Branch} {b' : Branch} {bs' : List Branch} where
  pub paged_at : Paged n gs bytes i (to_come ts xs) c → xs ≡ b ∷ bs → i' ≡ i → c' ≡ c → Descends ts b bs b' bs' → Paged n gs bytes i' (to_come ts (b' ∷ bs')) c'
  paged_at paged e f g d =
      subst (λ j. Paged n gs bytes j (to_come ts (b' ∷ bs')) c') (sym f) (subst (Paged n gs bytes i (to_come ts (b' ∷ bs'))) (sym g) (subst (λ zs. Paged n gs bytes i zs c) (ap (to_come ts) e ∙ sym d.same) paged))

-- what a diagram names, if anything, is the tree of a family
any_good : (m : NodeMemory) (v : View) → Good 1 (tree_of (trees m) v)
any_good m Never = tt
any_good m Always = tt
any_good m (Place p) =
    ⊎_elim (λ (l : p < length (trees m)). (memory_proper m p none l).good) (λ (l : length (trees m) ≤ p). subst (Good 1) (sym (get_or_past (trees m) p none l)) tt) (cases_lt p (length (trees m)))

map_zero : (xs : List ℕ) → map (λ n. 0 + n) xs ≡ xs
map_zero [] = refl
map_zero (x ∷ xs) = let e : 0 + x ≡ x = omega arith in λ i. e i ∷ map_zero xs i

-- the walk begins with the whole diagram
module _ (m : NodeMemory) (d : Diagram) where
  abbrev root : Branch
  root = record { diagram = d; gathered = 0 }

  module _ (xs ys : List Branch) (one : xs ≡ root ∷ ys) (alone : ys ≡ []) where
    only_root : xs ≡ root ∷ []
    only_root = one ∙ ap (λ zs. root ∷ zs) alone

    pub root_fits : AllFit (trees m) xs
    unfolding weight
    root_fits = subst (AllFit (trees m)) (sym only_root) (record { above = 0; deep = omega arith; good = any_good m (seen d); small = omega arith }, tt)

    pub root_groups : (t : Tree) → Denotes (trees m) d t → to_come (trees m) xs ≡ groups t
    root_groups t den = ap (to_come (trees m)) only_root ∙ append-nil (branch_groups (trees m) root) ∙ map_zero (groups (tree_at (trees m) d)) ∙ ap groups den.is
