-- The family that a text is read as.
use Rattle.std.proofs.Common.{◌≡◌, ℕ, ◌≤◌, Bool, true, false, cond, leb, List, Ok, Err, Result, sym, refl, ap, ◌∙◌, subst, arith}
use Rattle.rules.specs.declared.faults.RuleFault.{RuleFault}
use Rattle.rules.specs.declared.faults.RuleFault.TheVariants.{Terms as TooMany}
use Rattle.rules.specs.Building.{different}
use Rattle.rules.specs.Rules as rule
use Rattle.rules.specs.Reading.{reading}
use Rattle.rules.specs.Terms.{Term, term_passes, expand, subterms}
use Rattle.rules.specs.Outcome.{placed, outcome}
use Rattle.rules.proofs.Expansion.{expansion_passes}
use Rattle.rules.proofs.ReadingSpells.{let_in_from_reading}
use Rattle.families.specs.Trees.{passes}
use Rattle.calls.specs.Works.{family}
use Rattle.calls.proofs.Ranges.{Ranges, expand_ranges}
use Rattle.calls.proofs.TermFamilies.{FamilyOf, term_family}

-- the term is that of the rule that was read
placed_term : (room : ℕ) (x : Result rule.Rule RuleFault) (t : Term) → placed room x ≡ Ok t → (r : rule.Rule) × (x ≡ Ok r) × (t ≡ expand r)
placed_term room (Err fault) t e = let z : ◌≡◌ {A = ℕ} 0 1 = cc in absurd (omega arith)
placed_term room (Ok r) t e = (r, refl, by_room (leb (different (subterms (expand r))) room) e)
  where
    by_room : (b : Bool) → cond b (Ok (expand r)) (Err TooMany) ≡ Ok t → t ≡ expand r
    by_room true h = cc
    by_room false h = let z : ◌≡◌ {A = ℕ} 0 1 = cc in absurd (omega arith)

module _ (n : ℕ) (few : n ≤ 48) (room : ℕ) (text : List ℕ) (t : Term) (e : outcome n room text ≡ Ok t) where
  pub text_ranges : Ranges n t
  text_ranges =
      let p = placed_term room (reading n text) t e in
      subst (Ranges n) (sym p.2) (expand_ranges n 0 p.0 (let_in_from_reading n text p.0 p.1).in_order)

  pub text_family : FamilyOf n t
  text_family = term_family n few t text_ranges

  pub text_passes : (r : rule.Rule) → reading n text ≡ Ok r → (g : ℕ → Bool) → passes (family t) g ≡ rule.passes r g
  text_passes r k g =
      let p = placed_term room (reading n text) t e in
      let same : p.0 ≡ r = cc in
      text_family.asks g ∙ ap (λ s. term_passes s g) (p.2 ∙ ap expand same) ∙ expansion_passes n 0 r g (let_in_from_reading n text r k).in_order
