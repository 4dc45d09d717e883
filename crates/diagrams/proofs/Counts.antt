-- Counting: a falling list of numbers below n has at most n entries, and the groups of a node are those of its two parts.
use Rattle.std.proofs.Common.{◌≡◌, ℕ, ◌+◌, ◌^◌, ◌<◌, ◌≤◌, List, [], ◌∷◌, length, arith, length-append}
use lib.ListN.{length-map}
use Rattle.std.specs.List.{AllByRecursion}
use Rattle.families.specs.Groups.{Falling}
use Rattle.families.specs.Trees.{Tree, node, groups}
use Rattle.families.specs.Good.{Good}
use Rattle.families.proofs.Listing.{each_all, groups_falling, lists_group}
use Rattle.diagrams.specs.Folding.{HasParts}

falling_short : (n : ℕ) (ns : List ℕ) → AllByRecursion (λ m. m < n) ns → Falling ns → length ns ≤ n
falling_short n [] all falling = omega arith
falling_short n (x ∷ xs) all falling = omega (arith, all.0, falling_short x xs falling.0 falling.1)

-- a family has no more groups than there are sets of members
pub groups_few : (t : Tree) → Good 1 t → length (groups t) ≤ 2 ^ 48
groups_few t good = falling_short (2 ^ 48) (groups t) (each_all (λ n. n < 2 ^ 48) (groups t) (λ n e. lists_group 1 t n good e)) (groups_falling 1 t good)

-- the groups of a node are those of its two parts
pub groups_node : (v : ℕ) (l h : Tree) → length (groups (node v l h)) ≡ length (groups l) + length (groups h)
groups_node v l h = simp (length-append, length-map) (omega arith)

-- the numbers of the two parts of a family's tree add up to no more than there are sets of members
pub sum_few : (v low high : ℕ) → HasParts (λ t. length (groups t)) v low high → low + high ≤ 2 ^ 48
sum_few v low high p = omega (arith, p.3, p.4, groups_node v p.0 p.1, groups_few (node v p.0 p.1) p.2)
