-- What a question that is opened goes on to ask.
use Rattle.std.specs.Prelude.{ℕ}
use Rattle.families.specs.Trees.{Tree}
use Rattle.families.specs.Questions.{Ask, either, both, less, turn, off, on, top, low_at, high_at, smaller}

-- what an open question still does: it builds its answer, or asks one more question and goes on with what that gives
pub data Script : Type 0 where
  builds : ℕ → Tree → Tree → Script
  ask : Ask → (Tree → Script) → Script

-- the six scripts; operands are never swapped
unfoldable pub script : Ask → Script
script (either f g) =
    let v = smaller f g in
    ask (either (low_at v f) (low_at v g)) λ l.
    ask (either (high_at v f) (high_at v g)) λ y.
    ask (less y l) λ h.
    builds v l h
script (both f g) =
    let v = smaller f g in
    ask (both (low_at v f) (low_at v g)) λ l.
    ask (both (high_at v f) (high_at v g)) λ p.
    ask (both (high_at v f) (low_at v g)) λ q.
    ask (either p q) λ r.
    ask (both (low_at v f) (high_at v g)) λ s.
    ask (either r s) λ x.
    ask (less x l) λ h.
    builds v l h
script (less f g) =
    let v = smaller f g in
    ask (less (low_at v f) (low_at v g)) λ l.
    ask (less (high_at v f) (high_at v g)) λ x.
    ask (less x (low_at v g)) λ h.
    builds v l h
script (turn f) =
    let v = top f in
    ask (turn (low_at v f)) λ a.
    ask (turn (high_at v f)) λ b.
    ask (both a b) λ l.
    ask (less a l) λ h.
    builds v l h
script (off f u) =
    let v = top f in
    ask (off (low_at v f) u) λ l.
    ask (off (high_at v f) u) λ h.
    builds v l h
script (on f u) =
    let v = top f in
    ask (on (low_at v f) u) λ l.
    ask (on (high_at v f) u) λ h.
    builds v l h
