-- A term memory holds different terms, no more than it has places, and with a term all terms in it.
use Rattle.std.proofs.Common.{◌≡◌, ℕ, zero, suc, ◌<◌, ◌≤◌, length, get_or, sym, subst, ⊎_elim, arith}
use Rattle.interning.specs.Model.{held}
use Rattle.interning.specs.Places.{Apart}
use Rattle.interning.proofs.Decode.{decode_apart, decode_at, length_decode}
use Rattle.interning.proofs.Sound.{held_apart, held_fits}
use Rattle.rules.specs.declared.terms.TermKey.{TermKey}
use Rattle.rules.specs.declared.terms.TermKey.TheVariants.{Member, Both, Either}
use Rattle.rules.specs.declared.terms.TermMemory.{TermMemory}
use Rattle.rules.specs.Members.{◌∈◌, ◌⊆◌}
use Rattle.rules.specs.Memory.{view}
use Rattle.rules.specs.TermKeys.{NamesBelow, tree}
use Rattle.rules.specs.Terms.{Term, blank, subterms}
use Rattle.interning.proofs.Members.{in_either, in_stands}
use Rattle.rules.proofs.Entries.{in_from_place}
use Rattle.rules.proofs.TermTrees.{readable, rooted_out}

module _ (m : TermMemory) where
  pub memory_apart : Apart (view m).terms
  memory_apart = decode_apart readable (held m.interner) (rooted_out _ m.rooted) (held_apart m.interner)

  pub memory_fits : length (view m).terms ≤ (view m).room
  memory_fits = omega (arith, length_decode tree (held m.interner), held_fits m.interner)

  -- the parts of a key's term are held, if those at earlier places are held with all terms in them
  key_closed : (p : ℕ) → ((q : ℕ) → q < p → subterms (get_or (view m).terms q blank) ⊆ (view m).terms) → (k : TermKey) → NamesBelow p k → tree (view m).terms k ∈ (view m).terms → subterms (tree (view m).terms k) ⊆ (view m).terms
  key_closed p earlier (Member v) names here t i = ⊎_elim (λ e. subst (λ x. x ∈ (view m).terms) (sym e) here) (λ n. absurd n) i
  key_closed p earlier (Both a b) names here t i =
      ⊎_elim (λ e. subst (λ x. x ∈ (view m).terms) (sym e) here)
      (λ n. ⊎_elim (λ l. earlier a names.0 t l) (λ r. earlier b names.1 t r) (in_either (subterms (get_or (view m).terms a blank)) (subterms (get_or (view m).terms b blank)) t n)) i
  key_closed p earlier (Either a b) names here t i =
      ⊎_elim (λ e. subst (λ x. x ∈ (view m).terms) (sym e) here)
      (λ n. ⊎_elim (λ l. earlier a names.0 t l) (λ r. earlier b names.1 t r) (in_either (subterms (get_or (view m).terms a blank)) (subterms (get_or (view m).terms b blank)) t n)) i

  places_closed : (n p : ℕ) → p < n → p < length (view m).terms → subterms (get_or (view m).terms p blank) ⊆ (view m).terms
  places_closed zero p l w = absurd (omega arith)
  places_closed (suc n) p l w =
      let ks = held m.interner in
      let inside : p < length ks = omega (arith, length_decode tree ks) in
      let k = get_or ks p (Member 0) in
      let is : get_or (view m).terms p blank ≡ tree (view m).terms k = decode_at readable ks (rooted_out ks m.rooted) p blank (Member 0) inside in
      subst (λ t. subterms t ⊆ (view m).terms) (sym is)
      (key_closed p (λ q o. places_closed n q (omega arith) (omega arith)) k (rooted_out ks m.rooted p (Member 0) inside) (subst (λ t. t ∈ (view m).terms) is (in_from_place (view m).terms p blank w)))

  pub memory_closed : (t : Term) → t ∈ (view m).terms → subterms t ⊆ (view m).terms
  memory_closed t i =
      let s = in_stands (view m).terms t i in
      subst (λ x. subterms x ⊆ (view m).terms) (s.1.here blank) (places_closed (suc s.0) s.0 (omega arith) s.1.within)
