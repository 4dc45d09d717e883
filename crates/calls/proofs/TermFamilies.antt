-- The family of a term: its smallest passing groups.
use Rattle.std.proofs.Common.{◌≡◌, ℕ, ◌≤◌, Bool, ◌&&◌, ◌||◌, ◌∙◌, ap₂, arith}
use Rattle.rules.specs.Terms.{Term, member, both, either, term_passes}
use Rattle.families.specs.Trees.{passes}
use Rattle.families.specs.Good.{Proper, Upto}
use Rattle.families.specs.Questions as ask
use Rattle.families.specs.Outcomes.{after}
use Rattle.families.proofs.Members.{upto_kept}
use Rattle.families.proofs.Properness.{proper_kept}
use Rattle.families.proofs.Laws.{passes_either, passes_both, proper_alone, passes_alone}
use Rattle.calls.specs.Works.{family}
use Rattle.calls.proofs.Ranges.{Ranges}
use Rattle.calls.proofs.Bounds.{either_upto, alone_upto}

-- the family of a term over the members 1 to n
pub record FamilyOf (n : ℕ) (t : Term) : Type 0 where
  pub proper : Proper (family t)
  pub upto : Upto n (family t)
  pub asks : (g : ℕ → Bool) → passes (family t) g ≡ term_passes t g

module _ (n : ℕ) (few : n ≤ 48) where
  pub term_family : (t : Term) → Ranges n t → FamilyOf n t
  unfolding after
  term_family (member v) r = record { proper = proper_alone v (omega arith); upto = alone_upto n v r.1; asks = passes_alone v (omega arith) }
  term_family (both s t) r =
      let f = term_family s r.0 in
      let g = term_family t r.1 in
      record {
        proper = (proper_kept (family s) (family t) f.proper g.proper).of_both;
        upto = upto_kept n (ask.both (family s) (family t)) (f.proper.good, g.proper.good) (either_upto n (family s) (family t) f.upto g.upto);
        asks = λ x. passes_both (family s) (family t) f.proper.good g.proper.good x ∙ ap₂ (λ a b. a && b) (f.asks x) (g.asks x);
      }
  term_family (either s t) r =
      let f = term_family s r.0 in
      let g = term_family t r.1 in
      record {
        proper = (proper_kept (family s) (family t) f.proper g.proper).of_either;
        upto = upto_kept n (ask.either (family s) (family t)) (f.proper.good, g.proper.good) (either_upto n (family s) (family t) f.upto g.upto);
        asks = λ x. passes_either (family s) (family t) f.proper.good g.proper.good x ∙ ap₂ (λ a b. a || b) (f.asks x) (g.asks x);
      }
