-- What stands on a shelf, by its tree.
use Rattle.std.proofs.Common.{◌≡◌, ℕ, ◌<◌, Bool, true, ◌↔◌, length, is_some, Some, None, sym, refl, ◌∙◌, subst, ⊎_elim, arith, length-set, get_or-set_other, get_or-set_same}
use Rattle.std.proofs.lemmas.Bool.{cases_eq, false≢true}
use Rattle.families.specs.Trees.{passes}
use Rattle.families.specs.Good.{Good, Proper, Upto}
use Rattle.families.specs.Kinds.{Stopping}
use Rattle.calls.specs.Shelves.{Shelves, Stand, Stocked, MayStand, on_shelf, tree_of, put, passes_on, Stops}

-- on an empty shelf nothing passes, as nothing passes none
pub passes_tree : (s : Stand) (g : ℕ → Bool) → passes_on s g ≡ passes (tree_of s) g
passes_tree None g = refl
passes_tree (Some t) g = refl

pub stops_tree : (s : Stand) (n : ℕ) → Stops s n ↔ Stopping (tree_of s) n
stops_tree None n = ((λ h. h), λ h. h)
stops_tree (Some t) n = ((λ h. h), λ h. h)

-- a family stands there
pub record Stands (n : ℕ) (s : Stand) : Type 0 where
  pub here : s ≡ Some (tree_of s)
  pub proper : Proper (tree_of s)
  pub upto : Upto n (tree_of s)

pub held_stands : (n : ℕ) (s : Stand) → is_some s ≡ true → MayStand n s → Stands n s
held_stands n None e m = absurd (false≢true e)
held_stands n (Some t) e m = record { here = refl; proper = m.0; upto = m.1 }

-- a stand that is allowed has a good tree
pub good_stand : (n : ℕ) (s : Stand) → MayStand n s → Good 1 (tree_of s)
good_stand n None m = tt
good_stand n (Some t) m = m.0.good

pub put_here : (c : ℕ) (s : Stand) (ss : Shelves) → c < length ss → on_shelf (put c s ss) c ≡ s
put_here c s ss l = get_or-set_same ss c s None l

pub put_elsewhere : (c : ℕ) (s : Stand) (ss : Shelves) (i : ℕ) → (i ≡ c → ⊥) → on_shelf (put c s ss) i ≡ on_shelf ss i
put_elsewhere c s ss i d = get_or-set_other ss c i s None d

pub put_stocked : (n c : ℕ) (s : Stand) (ss : Shelves) → c < 16 → MayStand n s → Stocked n ss → Stocked n (put c s ss)
put_stocked n c s ss l m k = record {
  sixteen = length-set ss c s ∙ k.sixteen;
  each = λ i h. ⊎_elim
      (λ e. subst (λ j. MayStand n (on_shelf (put c s ss) j)) (sym e) (subst (MayStand n) (sym (put_here c s ss (omega (arith, k.sixteen)))) m))
      (λ d. subst (MayStand n) (sym (put_elsewhere c s ss i d)) (k.each i h))
      (cases_eq i c);
}
