-- The six questions, and when one is answered at sight.
use Rattle.std.specs.Prelude.{ℕ, min, cond, ◌||◌, ◌==◌, nat_lt}
use Rattle.families.specs.Trees.{Tree, none, always, node, is_none, is_always, equal}

-- either and both: what passes one, or both; less: the groups of the first that contain no group of the second;
-- turn: the smallest groups that meet every group (the transversals of the family);
-- off: the groups without a member; on: those with it, it taken out
pub data Ask : Type 0 where
  either both less : Tree → Tree → Ask
  turn : Tree → Ask
  off on : Tree → ℕ → Ask

-- the top member, and 49 where there is none
abbrev pub top : Tree → ℕ
top none = 49
top always = 49
top (node v l h) = v

-- the two parts of an operand at v: low and high where v is its top, else itself and none
abbrev pub low_at : ℕ → Tree → Tree
low_at v none = none
low_at v always = always
low_at v (node w l h) = cond (v == w) l (node w l h)

abbrev pub high_at : ℕ → Tree → Tree
high_at v none = none
high_at v always = none
high_at v (node w l h) = cond (v == w) h none

-- the smaller top of two operands
abbrev pub smaller : Tree → Tree → ℕ
smaller f g = min (top f) (top g)

-- the member at which a question is split
unfoldable pub split_at : Ask → ℕ
split_at (either f g) = smaller f g
split_at (both f g) = smaller f g
split_at (less f g) = smaller f g
split_at (turn f) = top f
split_at (off f u) = top f
split_at (on f u) = top f

-- what is seen of a question: its answer, or that it has to be opened
pub data Sight : Type 0 where
  seen : Tree → Sight
  opens : Sight

-- the tests are tried in this order
unfoldable pub sight : Ask → Sight
sight (either f g) = cond (is_none f) (seen g) (cond (is_none g) (seen f) (cond (is_always f || is_always g) (seen always) (cond (equal f g) (seen f) opens)))
sight (both f g) = cond (is_none f || is_none g) (seen none) (cond (is_always f) (seen g) (cond (is_always g) (seen f) (cond (equal f g) (seen f) opens)))
sight (less f g) = cond (is_none f) (seen none) (cond (is_none g) (seen f) (cond (is_always g) (seen none) (cond (is_always f) (seen f) (cond (equal f g) (seen none) opens))))
sight (turn f) = cond (is_none f) (seen always) (cond (is_always f) (seen none) opens)
sight (off f u) = cond (is_none f || is_always f || nat_lt u (top f)) (seen f) (cond (u == top f) (seen (low_at u f)) opens)
sight (on f u) = cond (is_none f || is_always f || nat_lt u (top f)) (seen none) (cond (u == top f) (seen (high_at u f)) opens)
