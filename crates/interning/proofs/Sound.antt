-- What an interner says of its keys. Assumes nothing.
use Rattle.std.proofs.Common.{◌≡◌, ℕ, ◌<◌, ◌≤◌, List, length, get_or, sym, ◌∙◌, arith}
use Rattle.std.specs.declared.cmp.PartialEq.{Ghosts as Equality}
use mathlib.Core.Logic.{∥∥₁_elim}
use native.Mathlib.Bridge.{le_prop}
use native.Mathlib.Nat.{ℕ_set}
use Rattle.interning.specs.declared.slot.Slot.{Slot}
use Rattle.interning.specs.declared.interner.Interner.{Interner}
use Rattle.interning.specs.declared.key.Key.{Ghosts as Hashing}
use Rattle.interning.specs.Chain.{Linked}
use Rattle.interning.specs.Places.{Apart}
use Rattle.interning.specs.Model.{held, capacity}
use Rattle.interning.proofs.Slots.{length_keys, key_at, blank}

-- a fact that has one proof at most comes out of its truncation
pub linked_out : {K : Type 0} {mark : K → ℕ} {xs : List (Slot K)} {used : ℕ} → ∥ Linked mark xs used ∥₁ → Linked mark xs used
linked_out t = record {
  chains = λ d. record {
    heads = λ b h. ∥∥₁_elim t le_prop (λ l. (l.chains d).heads b h);
    nexts = λ q h. ∥∥₁_elim t le_prop (λ l. (l.chains d).nexts q h);
    first = λ p h. ∥∥₁_elim t le_prop (λ l. (l.chains d).first p h);
    older = λ p q m h e. ∥∥₁_elim t le_prop (λ l. (l.chains d).older p q m h e);
    home_head = λ b p h e. ∥∥₁_elim t (ℕ_set _ _) (λ l. (l.chains d).home_head b p h e);
    home_next = λ q p h e. ∥∥₁_elim t (ℕ_set _ _) (λ l. (l.chains d).home_next q p h e);
    apart = λ p q m h e. ∥∥₁_elim t (λ x y. absurd x) (λ l. (l.chains d).apart p q m h e);
  };
}

module _ {K : Type 0} {hashing : Hashing K} {equality : Equality K} (i : Interner K hashing equality) where
  -- it counts its keys
  pub held_used : length (held i) ≡ i.used
  held_used = omega (arith, length_keys i.slots.now i.used, i.within)

  -- no more keys are held than there are places
  pub held_fits : length (held i) ≤ capacity i
  held_fits = omega (arith, held_used, i.within)

  -- the keys are pairwise different
  pub held_apart : Apart (held i)
  held_apart p q d l m e =
      let linked = linked_out i.linked in
      let h : q < i.used = omega (arith, held_used) in
      let at : (j : ℕ) → j < i.used → get_or (held i) j d ≡ (get_or i.slots.now j (blank d)).key =
      λ j n. key_at i.slots.now i.used j d (blank d) n (omega (arith, i.within)) in
      (linked.chains (blank d)).apart p q l h (sym (at p (omega arith)) ∙ e ∙ at q h)
