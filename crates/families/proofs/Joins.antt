-- One step of either, both and turn: low, and over it the part of high that contains no group of low.
use Rattle.std.proofs.Common.{◌≡◌, ℕ, suc, Bool, ◌&&◌, ◌||◌, ◌∙◌}
use Rattle.families.specs.Sets.{rest}
use Rattle.families.specs.Trees.{Tree, build, passes}
use Rattle.families.specs.Good.{Fits, Good}
use Rattle.families.specs.Meanings.{Either, Both, Less, Turn}
use Rattle.families.proofs.Bools.{cover_law, either_law, both_law, turn_law}
use Rattle.families.proofs.Parts.{build_asks, build_good, Splits, lists_part}
use Rattle.families.proofs.Lesses.{less_lists, less_apart, less_cover}

-- over low it does not matter whether the groups that contain one of low are left out
module _ {b v : ℕ} {l x h : Tree} (p : Fits b v) (kl : Good (suc v) l) (kx : Good (suc v) x) (kh : Less (suc v) x l h) where
  join_good : Good b (build v l h)
  join_good = build_good b v l h p kl kh.good (less_apart x l h kh)

  join_asks : (s : ℕ → Bool) → passes (build v l h) s ≡ (passes l s || (s v && passes x s))
  join_asks s = build_asks v l h s ∙ cover_law (s v) (passes l s) (passes h s) (passes x s) (lists_part (suc v) h x kh.good kx (less_lists x l h kh) s) (less_cover x l h kx kh s)

pub either_step : {b v : ℕ} {f f0 f1 g g0 g1 l x h : Tree} → Fits b v → Splits v f f0 f1 → Splits v g g0 g1 → Either (suc v) f0 g0 l → Either (suc v) f1 g1 x → Less (suc v) x l h → Either b f g (build v l h)
either_step {v = v} {f0 = f0} {f1 = f1} {g0 = g0} {g1 = g1} p sf sg kl kx kh = record {
  good = join_good p kl.good kx.good kh;
  asks = λ s. join_asks p kl.good kx.good kh s ∙ rw (kl.asks s, kx.asks s, sf.asks s, sg.asks s) (either_law (s v) (passes f0 s) (passes f1 s) (passes g0 s) (passes g1 s));
}

pub both_step : {b v : ℕ} {f f0 f1 g g0 g1 l p q r s x h : Tree} → Fits b v → Splits v f f0 f1 → Splits v g g0 g1
    → Both (suc v) f0 g0 l → Both (suc v) f1 g1 p → Both (suc v) f1 g0 q → Either (suc v) p q r → Both (suc v) f0 g1 s → Either (suc v) r s x → Less (suc v) x l h → Both b f g (build v l h)
both_step {v = v} {f0 = f0} {f1 = f1} {g0 = g0} {g1 = g1} o sf sg kl kp kq kr ks kx kh = record {
  good = join_good o kl.good kx.good kh;
  asks = λ t. join_asks o kl.good kx.good kh t ∙ rw (kl.asks t, kx.asks t, kr.asks t, kp.asks t, kq.asks t, ks.asks t, sf.asks t, sg.asks t) (both_law (t v) (passes f0 t) (passes f1 t) (passes g0 t) (passes g1 t));
}

pub turn_step : {b v : ℕ} {f f0 f1 p q l h : Tree} → Fits b v → Splits v f f0 f1 → Turn (suc v) f0 p → Turn (suc v) f1 q → Both (suc v) p q l → Less (suc v) p l h → Turn b f (build v l h)
turn_step {v = v} {f0 = f0} {f1 = f1} o sf kp kq kl kh = record {
  good = join_good o kl.good kp.good kh;
  asks = λ s. join_asks o kl.good kp.good kh s ∙ rw (kl.asks s, kp.asks s, kq.asks s, sf.asks (rest s)) (turn_law (s v) (passes f0 (rest s)) (passes f1 (rest s)));
}
