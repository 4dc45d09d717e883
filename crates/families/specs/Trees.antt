-- Decision diagrams of families of groups, written as trees.
use Rattle.std.specs.Prelude.{ℕ, ◌+◌, Bool, true, false, ◌&&◌, ◌||◌, List, [], ◌∷◌, ◌++◌, map, ◌==◌}
use Rattle.families.specs.Sets.{has}
use Rattle.families.specs.Groups.{weight}

-- `none` has no group, `always` only the empty one. In `node v low high`, low has the groups without v,
-- and high those with v, with v taken out.
pub data Tree : Type 0 where
  none always : Tree
  node : ℕ → Tree → Tree → Tree

-- the tree over two parts: the node, unless high is none
abbrev pub build : ℕ → Tree → Tree → Tree
build v low none = low
build v low always = node v low always
build v low (node w a b) = node v low (node w a b)

-- the tree of one group, of one member
abbrev pub alone : ℕ → Tree
alone v = node v none always

-- the set g contains one of the groups
abbrev pub passes : Tree → (ℕ → Bool) → Bool
passes none g = false
passes always g = true
passes (node v low high) g = passes low g || (g v && passes high g)

-- the numbers of the groups, those with the smaller members first
abbrev pub groups : Tree → List ℕ
groups none = []
groups always = 0 ∷ []
groups (node v low high) = map (λ n. weight v + n) (groups high) ++ groups low

-- n is the number of one of the groups
abbrev pub lists : Tree → ℕ → Bool
lists t n = has (groups t) n

-- the tree has no group
abbrev pub is_none : Tree → Bool
is_none none = true
is_none always = false
is_none (node v low high) = false

-- the tree has only the empty group, so that everything passes
abbrev pub is_always : Tree → Bool
is_always none = false
is_always always = true
is_always (node v low high) = false

-- the two trees are the same
abbrev pub equal : Tree → Tree → Bool
equal none none = true
equal none always = false
equal none (node w c d) = false
equal always none = false
equal always always = true
equal always (node w c d) = false
equal (node v a b) none = false
equal (node v a b) always = false
equal (node v a b) (node w c d) = v == w && (equal a c && equal b d)
