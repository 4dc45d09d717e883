-- Building: a node that is interned is the tree over its parts, and the memory stays one of trees of families.
use Rattle.std.proofs.Common.{◌≡◌, ℕ, ◌+◌, ◌^◌, ◌<◌, ◌≤◌, true, false, cond, List, [], ◌∷◌, ◌++◌, length, Some, None, Ok, Err, Option, Result, sym, refl, ap, ◌∙◌, subst, inl, ⊎_elim, not-suc-le-zero, arith, MatchOption}
use Rattle.std.specs.Option.{ok_or}
use lib.Dec.{eqb}
use Rattle.std.proofs.lemmas.Bool.{eq-eqb, eqb-true, false≢true}
use Rattle.interning.specs.declared.interner.Full.{Full}
use Rattle.interning.specs.Decode.{Rooted, decode}
use Rattle.interning.specs.Distinct.{◌∈◌, Within}
use Rattle.interning.specs.Interned.{Interned, Appended, Refused, Placed}
use Rattle.interning.specs.Model.{held}
use Rattle.interning.specs.Places.{Each}
use Rattle.interning.proofs.Decode.{decode_none}
use Rattle.interning.proofs.Members.{stands_in, in_left, absent_not_in}
use Rattle.interning.proofs.Places.{kept_same, places_push}
use Rattle.memos.specs.declared.diagram.Diagram.{Diagram}
use Rattle.memos.specs.declared.diagram.View.{View}
use Rattle.memos.specs.declared.diagram.View.TheVariants.{None as Never, Always, Node as Place}
use Rattle.memos.specs.Diagrams.{named, seen}
use Rattle.memos.proofs.Diagrams.{seen_alike}
use Rattle.families.specs.Groups.{is_member}
use Rattle.families.specs.Trees.{Tree, none, always, node, alone, build, is_none}
use Rattle.families.specs.Good.{Good, Proper}
use Rattle.families.specs.Outcomes.{made}
use Rattle.diagrams.specs.declared.node.Node.{Node}
use Rattle.diagrams.specs.declared.nodes.NodeMemory.{NodeMemory}
use Rattle.diagrams.specs.NodeKeys.{Below, NamesBelow, tree_of, tree_at, node_tree}
use Rattle.diagrams.specs.Memory.{trees, places}
use Rattle.diagrams.specs.Building.{Denotes, Made, Lacks, Makes, Joins, single_made, single_tree}
use Rattle.diagrams.proofs.GoodTrees.{each_out}
use Rattle.diagrams.proofs.Memories.{memory_each, memory_fits, lifted}
use Rattle.diagrams.proofs.NodeTrees.{Nodal, rooted_placed}

nodal_some : (t : Tree) → Nodal t → is_none t ≡ false
nodal_some none p = p
nodal_some always p = refl
nodal_some (node v l h) p = refl

-- the test for the name none
pub named_none : (d e : Diagram) → seen e ≡ Never → eqb d.code e.code ≡ true → seen d ≡ Never
named_none d e empty same = ap named (eqb-true d.code e.code same) ∙ empty

pub named_some : (d e : Diagram) → seen e ≡ Never → eqb d.code e.code ≡ false → seen d ≡ Never → ⊥
named_some d e empty apart is = false≢true (sym apart ∙ eq-eqb d.code e.code (ap (λ x. x.code) (seen_alike d e (is ∙ sym empty))))

-- what has a name other than none has a group
pub view_some : (ts : List Tree) → Each Nodal ts → (v : View) → (v ≡ Never → ⊥) → Below (length ts) v → is_none (tree_of ts v) ≡ false
view_some ts each Never not b = absurd (not refl)
view_some ts each Always not b = refl
view_some ts each (Place p) not b = nodal_some _ (each p none b)

pub build_node : (v : ℕ) (l h : Tree) → is_none h ≡ false → build v l h ≡ node v l h
build_node v l none e = let no_way : ◌≡◌ {A = ℕ} 0 1 = cc in absurd (omega arith)
build_node v l always e = refl
build_node v l (node w a b) e = refl

-- the tree that is built over the trees of two diagrams
pub build_is : (ts : List Tree) (v : ℕ) (low high : Diagram) (l h : Tree) → Denotes ts low l → Denotes ts high h → build v (tree_at ts low) (tree_at ts high) ≡ build v l h
build_is ts v low high l h x y i = build v (x.is i) (y.is i)

-- where high is not none, the one node that is made is what is built
pub made_one : (v : ℕ) (l h : Tree) → is_none h ≡ false → made v l h ≡ build v l h ∷ []
made_one v l none e = let no_way : ◌≡◌ {A = ℕ} 0 1 = cc in absurd (omega arith)
made_one v l always e = refl
made_one v l (node w a b) e = refl

-- low, where high is none
pub joins_low : (cap : ℕ) (ts : List Tree) (v : ℕ) (low high : Diagram) (l h : Tree) → seen high ≡ Never → Denotes ts low l → Denotes ts high h → Joins cap ts v l h (Ok low) ts
joins_low cap ts v low high l h e x y =
    subst (λ t. Joins cap ts v l t (Ok low) ts) (sym (ap (tree_of ts) e) ∙ y.is) (record { denotes = x; kept = kept_same ts; there = λ t m. absurd m; only = in_left ts [] })

placed_named : (cap : ℕ) (ts : List Tree) (t : Tree) (i : ℕ) (ts' : List Tree) (d : Diagram) → seen d ≡ Place i → Placed cap ts t i ts' → Made ts t (t ∷ []) d ts'
placed_named cap ts t i ts' d e p = record {
  denotes = record { within = subst (Below (length ts')) (sym e) p.stands.within; is = ap (tree_of ts') e ∙ p.stands.here none };
  kept = p.kept;
  there = λ s m. ⊎_elim (λ (same : s ≡ t). subst (λ z. z ∈ ts') (sym same) (stands_in ts' t i p.stands)) (λ (f : ⊥). absurd f) m;
  only = ⊎_elim (λ (same : ts' ≡ ts). subst (λ us. Within us (ts ++ (t ∷ []))) (sym same) (in_left ts (t ∷ []))) (λ (a : Appended cap ts t i ts'). subst (Within ts') a.more (λ s m. m)) p.change;
}

-- a place below the number of names has a name
makes_placed : (cap : ℕ) (ts : List Tree) (t : Tree) (i : ℕ) (ts' : List Tree) (o : Option Diagram) (f : Full) → i + 2 < 2 ^ 32 → MatchOption o (2 ^ 32 ≤ i + 2) (λ d. seen d ≡ Place i) → Placed cap ts t i ts' → Makes cap ts t (t ∷ []) (ok_or o f) ts'
makes_placed cap ts t i ts' (Some d) f few e p = placed_named cap ts t i ts' d e p
makes_placed cap ts t i ts' None f few e p = absurd (omega arith)

lacks_refused : (cap : ℕ) (ts : List Tree) (t : Tree) (ts' : List Tree) → Refused cap ts t ts' → Lacks cap ts (t ∷ []) ts'
lacks_refused cap ts t ts' p = record { full = p.full; missing = t; among = inl refl; absent = absent_not_in ts t p.absent; same = p.same }

-- the node of a member, none and always is the family of that member alone
pub single_makes : (cap : ℕ) (ts : List Tree) (v : ℕ) (r : Result Diagram Full) (ts' : List Tree) → is_member v ≡ true → Joins cap ts v none always r ts' → Makes cap ts (single_tree v) (single_made v) r ts'
single_makes cap ts v r ts' e j = subst (λ b. Makes cap ts (cond b (alone v) none) (cond b (alone v ∷ []) []) r ts') (sym e) j

pub good_none : (ks : List Node) → ks ≡ [] → ∥ Each Proper (decode node_tree ks) ∥₁
good_none ks empty = ∣ subst (Each Proper) (sym (ap (decode node_tree) empty ∙ decode_none node_tree)) (λ p d l. absurd (not-suc-le-zero l)) ∣₁

module _ (cap : ℕ) where
  pub rooted_interned : (ks : List Node) (k : Node) (r : Result ℕ Full) (ks' : List Node) → ∥ Rooted NamesBelow ks ∥₁ → NamesBelow (length ks) k → Interned cap ks k r ks' → ∥ Rooted NamesBelow ks' ∥₁
  rooted_interned ks k (Ok i) ks' rooted below p = rooted_placed cap ks k i ks' rooted below p
  rooted_interned ks k (Err e) ks' rooted below p = subst (λ xs. ∥ Rooted NamesBelow xs ∥₁) (sym p.same) rooted

  pub good_interned : (ts : List Tree) (t : Tree) (r : Result ℕ Full) (ts' : List Tree) → ∥ Each Proper ts ∥₁ → Proper t → Interned cap ts t r ts' → ∥ Each Proper ts' ∥₁
  good_interned ts t (Ok i) ts' good proper p =
      ⊎_elim (λ (e : ts' ≡ ts). subst (λ xs. ∥ Each Proper xs ∥₁) (sym e) good)
      (λ (a : Appended cap ts t i ts'). subst (λ xs. ∥ Each Proper xs ∥₁) (sym a.more) ∣ places_push ts t (λ j. Proper) (each_out ts good) proper ∣₁)
      p.change
  good_interned ts t (Err e) ts' good proper p = subst (λ xs. ∥ Each Proper xs ∥₁) (sym p.same) good

  -- a place that was taken is one of those that there are
  pub placed_below : (ts : List Tree) (t : Tree) (i : ℕ) (ts' : List Tree) → length ts ≤ cap → Placed cap ts t i ts' → i < cap
  placed_below ts t i ts' few p =
      ⊎_elim (λ (e : ts' ≡ ts). omega (arith, ap length e, p.stands.within)) (λ (a : Appended cap ts t i ts'). a.free) p.change

-- a node over parts of the memory, whose high part is not none
module _ (m : NodeMemory) (k : Node) (names : NamesBelow (length (trees m)) k) (not : seen k.high ≡ Never → ⊥) where
  high_some : is_none (tree_at (trees m) k.high) ≡ false
  high_some = view_some (trees m) (memory_each m) (seen k.high) not names.1

  key_build : build k.member (tree_at (trees m) k.low) (tree_at (trees m) k.high) ≡ node_tree (trees m) k
  key_build = build_node k.member _ _ high_some

  pub key_proper : Good 1 (build k.member (tree_at (trees m) k.low) (tree_at (trees m) k.high)) → Proper (node_tree (trees m) k)
  key_proper good = record { good = subst (Good 1) key_build good; some = refl; more = refl }

  module _ (ks : List Node) (l h : Tree) (x : Denotes (trees m) k.low l) (y : Denotes (trees m) k.high h) where
    key_tree : node_tree (trees m) k ≡ build k.member l h
    key_tree = sym key_build ∙ build_is (trees m) k.member k.low k.high l h x y

    -- the node is all that is made
    key_joins : (r : Result Diagram Full) → Makes (places m) (trees m) (node_tree (trees m) k) (node_tree (trees m) k ∷ []) r (decode node_tree ks) → Joins (places m) (trees m) k.member l h r (decode node_tree ks)
    key_joins r p =
        let one = made_one k.member l h (subst (λ t. is_none t ≡ false) y.is high_some) in
        subst (λ us. Makes (places m) (trees m) (build k.member l h) us r (decode node_tree ks)) (sym one) (subst (λ t. Makes (places m) (trees m) t (t ∷ []) r (decode node_tree ks)) key_tree p)

    pub key_made : (i : ℕ) (o : Option Diagram) (f : Full) → MatchOption o (2 ^ 32 ≤ i + 2) (λ d. seen d ≡ Place i) → Placed (places m) (held m.interner) k i ks → Joins (places m) (trees m) k.member l h (ok_or o f) (decode node_tree ks)
    key_made i o f e p =
        let up = lifted m k (Ok i) ks names p in
        let below = placed_below (places m) (trees m) (node_tree (trees m) k) i (decode node_tree ks) (memory_fits m) up in
        key_joins (ok_or o f) (makes_placed (places m) (trees m) (node_tree (trees m) k) i (decode node_tree ks) o f (omega (arith, m.few)) e up)

    pub key_refused : (f : Full) → Refused (places m) (held m.interner) k ks → Joins (places m) (trees m) k.member l h (Err f) (decode node_tree ks)
    key_refused f p = key_joins (Err f) (lacks_refused (places m) (trees m) (node_tree (trees m) k) (decode node_tree ks) (lifted m k (Err f) ks names p))
