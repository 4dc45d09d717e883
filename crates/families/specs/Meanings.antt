-- What the answer R to each question is, for operands whose members are at least b.
use Rattle.std.specs.Prelude.{◌≡◌, ℕ, ◌-◌, Bool, not, ◌&&◌, ◌||◌, map, filter}
use Rattle.families.specs.Sets.{rest}
use Rattle.families.specs.Groups.{weight, holds}
use Rattle.families.specs.Trees.{Tree, passes, groups}
use Rattle.families.specs.Good.{Good}
use Rattle.families.specs.Questions.{Ask, either, both, less, turn, off, on}

-- what passes F or passes G
pub record Either (b : ℕ) (F G R : Tree) : Type 0 where
  pub good : Good b R
  pub asks : (g : ℕ → Bool) → passes R g ≡ (passes F g || passes G g)

-- what passes F and passes G
pub record Both (b : ℕ) (F G R : Tree) : Type 0 where
  pub good : Good b R
  pub asks : (g : ℕ → Bool) → passes R g ≡ (passes F g && passes G g)

-- the groups of F that contain no group of G
pub record Less (b : ℕ) (F G R : Tree) : Type 0 where
  pub good : Good b R
  pub listed : groups R ≡ filter (λ n. not (passes G (holds n))) (groups F)

-- what leaves no group of F among the rest
pub record Turn (b : ℕ) (F R : Tree) : Type 0 where
  pub good : Good b R
  pub asks : (g : ℕ → Bool) → passes R g ≡ not (passes F (rest g))

-- the groups of F without u
pub record Off (b : ℕ) (F : Tree) (u : ℕ) (R : Tree) : Type 0 where
  pub good : Good b R
  pub listed : groups R ≡ filter (λ n. not (holds n u)) (groups F)

-- the groups of F with u, u taken out
pub record On (b : ℕ) (F : Tree) (u : ℕ) (R : Tree) : Type 0 where
  pub good : Good b R
  pub listed : groups R ≡ map (λ n. n - weight u) (filter (λ n. holds n u) (groups F))

-- R is the answer to the question
abbrev pub Answers : ℕ → Ask → Tree → Type 0
Answers b (either f g) r = Either b f g r
Answers b (both f g) r = Both b f g r
Answers b (less f g) r = Less b f g r
Answers b (turn f) r = Turn b f r
Answers b (off f u) r = Off b f u r
Answers b (on f u) r = On b f u r

-- the operands are good, with members from b on
abbrev pub GoodAsk : ℕ → Ask → Type 0
GoodAsk b (either f g) = Good b f × Good b g
GoodAsk b (both f g) = Good b f × Good b g
GoodAsk b (less f g) = Good b f × Good b g
GoodAsk b (turn f) = Good b f
GoodAsk b (off f u) = Good b f
GoodAsk b (on f u) = Good b f
