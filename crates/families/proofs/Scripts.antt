-- What an opened question asks: its parts, and what comes of them.
use Rattle.std.proofs.Common.{◌≡◌, ℕ, suc, ◌<◌, min, subst, arith}
use Rattle.families.specs.Trees.{Tree}
use Rattle.families.specs.Good.{Fits, Good}
use Rattle.families.specs.Questions.{Ask, either, both, less, turn, off, on, opens, top, low_at, high_at, split_at, sight}
use Rattle.families.specs.Scripts.{script}
use Rattle.families.specs.Meanings.{GoodAsk}
use Rattle.families.specs.Leads.{Ahead, Sees, Leads, ScriptLeads}
use Rattle.families.proofs.Parts.{Splits, splits}
use Rattle.families.proofs.Lesses.{less_step}
use Rattle.families.proofs.Joins.{either_step, both_step, turn_step}
use Rattle.families.proofs.Cuts.{off_step, on_step}
use Rattle.families.proofs.Sights.{sight_right}

-- a question that is opened is split at a member from b on
pub opens_fits : (b : ℕ) (q : Ask) → GoodAsk b q → sight q ≡ opens → Fits b (split_at q) × Ahead q (split_at q)
opens_fits b q k e = subst (Sees b q) e (sight_right b q k)

-- both operands split at the smaller top
module _ (b : ℕ) (f g : Tree) (kf : Good b f) (kg : Good b g) where
  splits_first : Splits (min (top f) (top g)) f (low_at (min (top f) (top g)) f) (high_at (min (top f) (top g)) f)
  splits_first = splits b (min (top f) (top g)) f kf (omega arith)

  splits_second : Splits (min (top f) (top g)) g (low_at (min (top f) (top g)) g) (high_at (min (top f) (top g)) g)
  splits_second = splits b (min (top f) (top g)) g kg (omega arith)

  either_leads : Fits b (min (top f) (top g)) → Leads b (suc (min (top f) (top g))) (either f g) (script (either f g))
  unfolding script
  either_leads p =
      let sf = splits_first in
      let sg = splits_second in
      ((sf.low, sg.low), λ l kl. ((sf.high, sg.high), λ x kx. ((kx.good, kl.good), λ h kh. either_step p sf sg kl kx kh)))

  both_leads : Fits b (min (top f) (top g)) → Leads b (suc (min (top f) (top g))) (both f g) (script (both f g))
  unfolding script
  both_leads o =
      let sf = splits_first in
      let sg = splits_second in (
        (sf.low, sg.low),
        λ l kl. (
          (sf.high, sg.high),
          λ p kp. (
            (sf.high, sg.low),
            λ q kq. (
              (kp.good, kq.good),
              λ r kr.
                  ((sf.low, sg.high), λ s ks. ((kr.good, ks.good), λ x kx. ((kx.good, kl.good), λ h kh. both_step o sf sg kl kp kq kr ks kx kh))),
            ),
          ),
        ),
      )

  less_leads : Fits b (min (top f) (top g)) → Leads b (suc (min (top f) (top g))) (less f g) (script (less f g))
  unfolding script
  less_leads p =
      let sf = splits_first in
      let sg = splits_second in
      ((sf.low, sg.low), λ l kl. ((sf.high, sg.high), λ x kx. ((kx.good, sg.low), λ h kh. less_step p sf sg kl kx kh)))

module _ (b : ℕ) (f : Tree) (k : Good b f) where
  splits_top : Splits (top f) f (low_at (top f) f) (high_at (top f) f)
  splits_top = splits b (top f) f k (omega arith)

  turn_leads : Fits b (top f) → Leads b (suc (top f)) (turn f) (script (turn f))
  unfolding script
  turn_leads p =
      let s = splits_top in
      (s.low, λ a ka. (s.high, λ c kc. ((ka.good, kc.good), λ l kl. ((ka.good, kl.good), λ h kh. turn_step p s ka kc kl kh))))

  off_leads : (u : ℕ) → Fits b (top f) → top f < u → Leads b (suc (top f)) (off f u) (script (off f u))
  unfolding script
  off_leads u p q = let s = splits_top in (s.low, λ l kl. (s.high, λ h kh. off_step p q s kl kh))

  on_leads : (u : ℕ) → Fits b (top f) → top f < u → Leads b (suc (top f)) (on f u) (script (on f u))
  unfolding script
  on_leads u p q = let s = splits_top in (s.low, λ l kl. (s.high, λ h kh. on_step p q s kl kh))

pub script_leads : ScriptLeads
unfolding split_at
script_leads b (either f g) k e = either_leads b f g k.0 k.1 (opens_fits b (either f g) k e).0
script_leads b (both f g) k e = both_leads b f g k.0 k.1 (opens_fits b (both f g) k e).0
script_leads b (less f g) k e = less_leads b f g k.0 k.1 (opens_fits b (less f g) k e).0
script_leads b (turn f) k e = turn_leads b f k (opens_fits b (turn f) k e).0
script_leads b (off f u) k e = let p = opens_fits b (off f u) k e in off_leads b f k u p.0 p.1
script_leads b (on f u) k e = let p = opens_fits b (on f u) k e in on_leads b f k u p.0 p.1
