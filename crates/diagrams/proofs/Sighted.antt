-- What is seen of a question, test by test.
use Rattle.std.proofs.Common.{◌≡◌, ℕ, ◌<◌, ◌≤◌, Bool, true, false, ◌||◌, List, length, Some, None, Decides, sym, refl, ap, ◌∙◌, subst, ⊎_elim, arith}
use Rattle.std.proofs.lemmas.Bool.{cases_Bool, cases_order, lt-ltb, le-ltb, eq-eqb, ne_eqb, false≢true, true≢false}
use Rattle.memos.specs.declared.diagram.Diagram.{Diagram}
use Rattle.memos.specs.declared.diagram.View.TheVariants.{None as Never, Always, Node as Place}
use Rattle.memos.specs.Diagrams.{seen as named}
use Rattle.families.specs.Trees.{Tree, none, always, node, is_none, is_always, equal}
use Rattle.families.specs.Questions.{Sight, either, both, less, turn, off, on, low_at, high_at, seen, opens, sight}
use Rattle.families.proofs.Sights.{equal_is, equal_self}
use Rattle.diagrams.specs.NodeKeys.{Below, tree_of, tree_at}
use Rattle.diagrams.specs.Building.{Denotes}
use Rattle.diagrams.specs.Asking.{Seen}
use Rattle.diagrams.specs.Memory.{trees}
use Rattle.diagrams.specs.declared.nodes.NodeMemory.{NodeMemory}
use Rattle.diagrams.proofs.Memories.{memory_each}
use Rattle.diagrams.proofs.Opened.{none_denotes}
use Rattle.diagrams.proofs.NodeTrees.{Nodal}

-- a test that came out false
pub fails : (r : Bool) (P : Type 0) → Decides r P → r ≡ false → P → ⊥
fails r P d e p = false≢true (sym e ∙ d.1 p)

-- a diagram that is held denotes its tree
pub held_denotes : (ts : List Tree) (d : Diagram) → Below (length ts) (named d) → Denotes ts d (tree_at ts d)
held_denotes ts d b = record { within = b; is = refl }

-- the tree of a diagram that is none, always or a place
module _ {ts : List Tree} {d : Diagram} {t : Tree} (den : Denotes ts d t) where
  pub is_never : Never ≡ named d → t ≡ none
  is_never e = sym den.is ∙ sym (ap (tree_of ts) e)

  pub is_ever : Always ≡ named d → t ≡ always
  is_ever e = sym den.is ∙ sym (ap (tree_of ts) e)

pub is_nodal : (m : NodeMemory) {d : Diagram} {p : ℕ} {t : Tree} → Denotes (trees m) d t → Place p ≡ named d → Nodal t
is_nodal m {d} {p} den e = subst Nodal (ap (tree_of (trees m)) e ∙ den.is) (memory_each m p none (subst (Below (length (trees m))) (sym e) den.within))

-- a diagram that is always has no tree but always
pub always_denotes : (ts : List Tree) (d : Diagram) → named d ≡ Always → Denotes ts d always
always_denotes ts d e = record { within = subst (Below (length ts)) (sym e) tt; is = ap (tree_of ts) e }

-- what is seen, as a diagram
pub seen_by : {ts : List Tree} {d : Diagram} {t : Tree} {z : Sight} → z ≡ seen t → Denotes ts d t → Seen ts (Some d) z
seen_by {ts} {d} e den = subst (Seen ts (Some d)) (sym e) den

pub seen_open : (ts : List Tree) {z : Sight} → z ≡ opens → Seen ts None z
seen_open ts e = subst (Seen ts None) (sym e) tt

differ : (s t : Tree) → (s ≡ t → ⊥) → equal s t ≡ false
differ s t n = ⊎_elim (λ e. absurd (n (equal_is s t e))) (λ e. e) (cases_Bool (equal s t))

pub none_either : (s t : Tree) → s ≡ none → sight (either s t) ≡ seen t
unfolding sight
none_either s t e = rw e

pub either_none : (s t : Tree) → t ≡ none → sight (either s t) ≡ seen s
unfolding sight
either_none none t e = rw e
either_none always t e = rw e
either_none (node v a b) t e = rw e

pub always_either : (s t : Tree) → s ≡ always → sight (either s t) ≡ seen s
unfolding sight
always_either s none e = rw e
always_either s always e = rw e
always_either s (node v a b) e = rw e

pub either_always : (s t : Tree) → t ≡ always → sight (either s t) ≡ seen t
unfolding sight
either_always none t e = rw e
either_always always t e = rw e
either_always (node v a b) t e = rw e

pub either_same : (s t : Tree) → s ≡ t → sight (either s t) ≡ seen s
unfolding sight
either_same none t e = rw (← e)
either_same always t e = rw (← e)
either_same (node v a b) t e = rw (← e, equal_self (node v a b))

pub either_opens : (s t : Tree) → Nodal s → Nodal t → (s ≡ t → ⊥) → sight (either s t) ≡ opens
unfolding sight
either_opens none t p q n = absurd (true≢false p)
either_opens always t p q n = absurd (true≢false p)
either_opens (node v a b) none p q n = absurd (true≢false q)
either_opens (node v a b) always p q n = absurd (true≢false q)
either_opens (node v a b) (node w c d) p q n = rw (differ (node v a b) (node w c d) n)

pub none_both : (s t : Tree) → s ≡ none → sight (both s t) ≡ seen s
unfolding sight
none_both s t e = rw e

pub both_none : (s t : Tree) → t ≡ none → sight (both s t) ≡ seen t
unfolding sight
both_none none t e = rw e
both_none always t e = rw e
both_none (node v a b) t e = rw e

pub always_both : (s t : Tree) → s ≡ always → sight (both s t) ≡ seen t
unfolding sight
always_both s none e = rw e
always_both s always e = rw e
always_both s (node v a b) e = rw e

pub both_always : (s t : Tree) → t ≡ always → sight (both s t) ≡ seen s
unfolding sight
both_always none t e = refl
both_always always t e = rw e
both_always (node v a b) t e = rw e

pub both_same : (s t : Tree) → s ≡ t → sight (both s t) ≡ seen s
unfolding sight
both_same none t e = refl
both_same always t e = rw (← e)
both_same (node v a b) t e = rw (← e, equal_self (node v a b))

pub both_opens : (s t : Tree) → Nodal s → Nodal t → (s ≡ t → ⊥) → sight (both s t) ≡ opens
unfolding sight
both_opens none t p q n = absurd (true≢false p)
both_opens always t p q n = absurd (true≢false p)
both_opens (node v a b) none p q n = absurd (true≢false q)
both_opens (node v a b) always p q n = absurd (true≢false q)
both_opens (node v a b) (node w c d) p q n = rw (differ (node v a b) (node w c d) n)

pub none_less : (s t : Tree) → s ≡ none → sight (less s t) ≡ seen s
unfolding sight
none_less s t e = rw e

pub less_none : (s t : Tree) → t ≡ none → sight (less s t) ≡ seen s
unfolding sight
less_none none t e = refl
less_none always t e = rw e
less_none (node v a b) t e = rw e

pub less_always : (s t : Tree) → t ≡ always → sight (less s t) ≡ seen none
unfolding sight
less_always none t e = refl
less_always always t e = rw e
less_always (node v a b) t e = rw e

pub always_less : (s t : Tree) → s ≡ always → (t ≡ always → ⊥) → sight (less s t) ≡ seen s
unfolding sight
always_less s none e n = rw e
always_less s always e n = absurd (n refl)
always_less s (node v a b) e n = rw e

pub less_same : (s t : Tree) → s ≡ t → sight (less s t) ≡ seen none
unfolding sight
less_same none t e = refl
less_same always t e = rw (← e)
less_same (node v a b) t e = rw (← e, equal_self (node v a b))

pub less_opens : (s t : Tree) → Nodal s → Nodal t → (s ≡ t → ⊥) → sight (less s t) ≡ opens
unfolding sight
less_opens none t p q n = absurd (true≢false p)
less_opens always t p q n = absurd (true≢false p)
less_opens (node v a b) none p q n = absurd (true≢false q)
less_opens (node v a b) always p q n = absurd (true≢false q)
less_opens (node v a b) (node w c d) p q n = rw (differ (node v a b) (node w c d) n)

pub turn_none : (t : Tree) → t ≡ none → sight (turn t) ≡ seen always
unfolding sight
turn_none t e = ap (λ z. sight (turn z)) e

pub turn_always : (t : Tree) → t ≡ always → sight (turn t) ≡ seen none
unfolding sight
turn_always t e = ap (λ z. sight (turn z)) e

pub turn_opens : (t : Tree) → Nodal t → sight (turn t) ≡ opens
unfolding sight
turn_opens none p = absurd (true≢false p)
turn_opens always p = absurd (true≢false p)
turn_opens (node v a b) p = refl

-- what is seen of a question on a member, u: the parts at it
pub parts_end : (t : Tree) (u : ℕ) → (is_none t || is_always t) ≡ true → (sight (off t u) ≡ seen (low_at u t)) × (sight (on t u) ≡ seen (high_at u t))
unfolding sight
parts_end none u e = (refl, refl)
parts_end always u e = (refl, refl)
parts_end (node v a b) u e = absurd (false≢true e)

-- of a node with the top v
module _ {t a b : Tree} {v : ℕ} (u : ℕ) (is : t ≡ node v a b) where
  pub parts_seen : u ≤ v → (sight (off t u) ≡ seen (low_at u t)) × (sight (on t u) ≡ seen (high_at u t))
  unfolding sight
  parts_seen h =
      subst (λ z. (sight (off z u) ≡ seen (low_at u z)) × (sight (on z u) ≡ seen (high_at u z))) (sym is)
      (⊎_elim
      (λ (e : u ≡ v). let l = le-ltb u v (omega arith) in let q = eq-eqb u v e in (rw (l, q), rw (l, q)))
      (⊎_elim (λ (s : u < v). let l = lt-ltb u v s in let q = ne_eqb u v (omega arith) in (rw (l, q), rw (l, q))) (λ (s : v < u). absurd (omega arith)))
      (cases_order u v))

  pub parts_open : v < u → (sight (off t u) ≡ opens) × (sight (on t u) ≡ opens)
  unfolding sight
  parts_open h =
      let l = le-ltb u v (omega arith) in
      let q = ne_eqb u v (omega arith) in
      subst (λ z. (sight (off z u) ≡ opens) × (sight (on z u) ≡ opens)) (sym is) (rw (l, q), rw (l, q))

-- what is used at the sight of each kind
pub ruleset sees = (fails, seen_by, seen_open, is_never, is_ever, is_nodal)

pub ruleset sees_order = (sees, none_either, either_none, always_either, either_always, either_same, either_opens, none_both, both_none, always_both, both_always, both_same, both_opens)

pub ruleset sees_less = (sees, none_denotes, none_less, less_none, less_always, always_less, less_same, less_opens)

pub ruleset sees_turn = (sees, none_denotes, always_denotes, turn_none, turn_always, turn_opens)
