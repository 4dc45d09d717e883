-- Families other than none and always.
use Rattle.std.proofs.Common.{◌≡◌, ℕ, Bool, true, false, not, eqb, sym, refl, ap, ◌∙◌, arith}
use Rattle.std.proofs.lemmas.Bool.{and_from, and_left, or_left, or_from, both_ways, cond_both, false≢true}
use Rattle.families.specs.Sets.{counting}
use Rattle.families.specs.Groups.{holds}
use Rattle.families.specs.Trees.{Tree, passes, is_none, is_always}
use Rattle.families.specs.Good.{Good, Proper}
use Rattle.families.specs.Questions.{either, both, turn}
use Rattle.families.specs.Outcomes.{answer}
use Rattle.families.specs.Replacing.{replaced, ProperPasses, ProperKept}
use Rattle.families.proofs.Bools.{refute}
use Rattle.families.proofs.Listing.{some_group}
use Rattle.families.proofs.Passing.{passes_mono, lists_self}
use Rattle.families.proofs.Sights.{none_is, always_is, empty_fails}
use Rattle.families.proofs.Solving.{answer_right}
use Rattle.families.proofs.Cutting.{replacing}

-- everything passes, and the empty set does not
pub proper_full : (f : Tree) → Proper f → passes f (λ v. true) ≡ true
proper_full f p = let r = some_group 1 f p.good p.some in passes_mono f (holds r.0) (λ v. true) (λ v h. refl) (lists_self 1 f r.0 p.good r.1)

pub proper_empty : (f : Tree) → Proper f → passes f (λ v. false) ≡ false
proper_empty f p = empty_fails 1 f p.good p.more

-- that is all there is to it
proper_from : (f : Tree) → Good 1 f → (g : ℕ → Bool) → passes f g ≡ true → passes f (λ v. false) ≡ false → Proper f
proper_from f k g e d = record {
  good = k;
  some = refute (is_none f) (λ h. false≢true (sym (ap (λ z. passes z g) (none_is f h)) ∙ e));
  more = refute (is_always f) (λ h. both_ways (passes f (λ v. false)) d (ap (λ z. passes z (λ v. false)) (always_is f h)));
}

pub proper_passes : ProperPasses
proper_passes f k = ((λ p. ((λ v. true), proper_full f p, proper_empty f p)), λ r. proper_from f k r.0 r.1 r.2)

pub proper_kept : ProperKept
proper_kept f g p q =
    let k = p.good in
    let m = q.good in
    let e = answer_right 1 (omega arith) (omega arith) (either f g) (k, m) in
    let b = answer_right 1 (omega arith) (omega arith) (both f g) (k, m) in
    let t = answer_right 1 (omega arith) (omega arith) (turn f) k in
    let pf = proper_full f p in
    let pe = proper_empty f p in
    let qf = proper_full g q in
    let qe = proper_empty g q in
    record {
      of_either = proper_from (answer (either f g)) e.good (λ v. true) (e.asks (λ v. true) ∙ or_left (passes f (λ v. true)) (passes g (λ v. true)) pf) (e.asks (λ v. false) ∙ or_from (passes f (λ v. false)) (passes g (λ v. false)) pe qe);
      of_both = proper_from (answer (both f g)) b.good (λ v. true) (b.asks (λ v. true) ∙ and_from (passes f (λ v. true)) (passes g (λ v. true)) pf qf) (b.asks (λ v. false) ∙ and_left (passes f (λ v. false)) (passes g (λ v. false)) pe);
      of_turn = proper_from (answer (turn f)) t.good (λ v. true) (t.asks (λ v. true) ∙ ap not pe) (t.asks (λ v. false) ∙ ap not pf);
      of_replaced = λ u.
          let r = replacing f g u k m in
          proper_from (replaced f u g) r.good (λ v. true)
          (r.asks (λ v. true) ∙ passes_mono f (λ v. true) (counting u (passes g (λ v. true)) (λ v. true)) (λ v h. cond_both (eqb v u) (passes g (λ v. true)) true (λ z. z ≡ true) (λ d. qf) (λ d. refl)) pf)
          (r.asks (λ v. false) ∙ refute (passes f (counting u (passes g (λ v. false)) (λ v. false))) (λ h. both_ways (passes f (λ v. false)) pe
          (passes_mono f (counting u (passes g (λ v. false)) (λ v. false)) (λ v. false) (λ v x. sym (cond_both (eqb v u) (passes g (λ v. false)) false (λ z. z ≡ false) (λ d. qe) (λ d. refl)) ∙ x) h)));
    }
