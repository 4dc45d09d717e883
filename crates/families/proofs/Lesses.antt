-- The groups of F that contain no group of G.
use Rattle.std.proofs.Common.{◌≡◌, ℕ, suc, ◌+◌, ◌<◌, Bool, true, false, not, ◌&&◌, ◌++◌, map, filter, sym, ap, ◌∙◌, subst, ⊎_elim, arith}
use Rattle.std.specs.List.{AllByRecursion}
use Rattle.std.proofs.lemmas.Bool.{both_ways, cases_Bool, and_parts, and_from, not-true, not_from_false}
use Rattle.std.proofs.ByRecursion.{All-weaker, kept_by_passes}
use Rattle.families.specs.Sets.{has}
use Rattle.families.specs.Groups.{weight, holds}
use Rattle.families.specs.Trees.{Tree, build, passes, groups, lists}
use Rattle.families.specs.Good.{Apart, Fits, Good}
use Rattle.families.specs.Meanings.{Less}
use Rattle.families.proofs.Weights.{holds_below, holds_first}
use Rattle.families.proofs.Listing.{groups_below}
use Rattle.families.proofs.Passing.{passes_mono, passes_later, lists_passes, passes_lists}
use Rattle.families.proofs.Kept.{has_kept, kept_same, kept_kept}
use Rattle.families.proofs.Parts.{build_listed, kept_node, build_good, Splits, apart_part}

pub lists_less : {b : ℕ} (f g r : Tree) → Less b f g r → (n : ℕ) → lists r n ≡ (lists f n && not (passes g (holds n)))
lists_less f g r k n = ap (λ z. has z n) k.listed ∙ has_kept (λ m. not (passes g (holds m))) (groups f) n

pub less_lists : {b : ℕ} (f g r : Tree) → Less b f g r → (n : ℕ) → lists r n ≡ true → lists f n ≡ true
less_lists f g r k n e = (and_parts (lists f n) (not (passes g (holds n))) (sym (lists_less f g r k n) ∙ e)).0

pub less_apart : {b : ℕ} (f g r : Tree) → Less b f g r → Apart g r
less_apart f g r k = subst (AllByRecursion (λ n. passes g (holds n) ≡ false)) (sym k.listed)
    (All-weaker (λ n. not (passes g (holds n)) ≡ true) (λ n. passes g (holds n) ≡ false) (λ n e. not-true (passes g (holds n)) e) (filter (λ n. not (passes g (holds n))) (groups f)) (kept_by_passes (λ n. not (passes g (holds n))) (groups f)))

-- what F passes and G does not, the rest passes
pub less_cover : {b : ℕ} (f g r : Tree) → Good b f → Less b f g r → (s : ℕ → Bool) → passes g s ≡ false → passes f s ≡ true → passes r s ≡ true
less_cover {b} f g r m k s q e =
    let p = passes_lists b f s m e in
    let n = p.0 in
    ⊎_elim
    (λ t. absurd (both_ways (passes g s) q (passes_mono g (holds n) s p.2 t)))
    (λ t. lists_passes b r n s k.good (lists_less f g r k n ∙ and_from (lists f n) (not (passes g (holds n))) p.1 (not_from_false (passes g (holds n)) t)) p.2)
    (cases_Bool (passes g (holds n)))

module _ {b v : ℕ} {f f0 f1 g g0 g1 l x h : Tree} (p : Fits b v) (sf : Splits v f f0 f1) (sg : Splits v g g0 g1) (kl : Less (suc v) f0 g0 l) (kx : Less (suc v) f1 g1 x) (kh : Less (suc v) x g0 h) where
  low_kept : filter (λ n. not (passes g (holds n))) (groups f0) ≡ groups l
  low_kept = kept_same (λ n. not (passes g (holds n))) (λ n. not (passes g0 (holds n))) (groups f0)
      (All-weaker (λ n. n < weight v) (λ n. not (passes g (holds n)) ≡ not (passes g0 (holds n))) (λ n q.
      let e = sg.asks (holds n) in
      let d = holds_below n v q in
      grind arith) (groups f0) (groups_below v f0 sf.low))
      ∙ sym kl.listed

  high_kept : filter (λ n. not (passes g (holds (weight v + n)))) (groups f1) ≡ groups h
  high_kept = kept_same (λ n. not (passes g (holds (weight v + n)))) (λ n. not (passes g1 (holds n)) && not (passes g0 (holds n))) (groups f1)
      (All-weaker (λ n. n < weight v) (λ n. not (passes g (holds (weight v + n))) ≡ (not (passes g1 (holds n)) && not (passes g0 (holds n)))) (λ n q.
      let e = sg.asks (holds (weight v + n)) in
      let d = holds_first n v p.1 q in
      let c0 = passes_later v n g0 sg.low in
      let c1 = passes_later v n g1 sg.high in
      grind arith) (groups f1) (groups_below v f1 sf.high))
      ∙ sym (kept_kept (λ n. not (passes g0 (holds n))) (λ n. not (passes g1 (holds n))) (groups f1))
      ∙ ap (filter (λ n. not (passes g0 (holds n)))) (sym kx.listed)
      ∙ sym kh.listed

  pub less_step : Less b f g (build v l h)
  less_step = record {
    good = build_good b v l h p kl.good kh.good (apart_part (suc v) f0 f1 l h sf.low kl.good sf.apart (less_lists f0 g0 l kl) (λ n e. less_lists f1 g1 x kx n (less_lists x g0 h kh n e)));
    listed = build_listed v l h
        ∙ ap (λ z. map (λ n. weight v + n) z ++ groups l) (sym high_kept)
        ∙ ap (λ z. map (λ n. weight v + n) (filter (λ n. not (passes g (holds (weight v + n)))) (groups f1)) ++ z) (sym low_kept)
        ∙ sym (kept_node (λ n. not (passes g (holds n))) v f0 f1)
        ∙ ap (filter (λ n. not (passes g (holds n)))) (sym sf.listed);
  }
