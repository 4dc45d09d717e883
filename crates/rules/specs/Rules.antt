-- A rule, and the groups that pass it.
use Rattle.std.specs.Prelude.{ℕ, zero, suc, ◌/◌, Bool, true, false, cond, ◌&&◌, ◌||◌, List, [], ◌∷◌, map, length, take, drop, nat_le}
use Rattle.rules.specs.declared.words.Head.{Head}
use Rattle.rules.specs.declared.words.Head.TheVariants.{All, Any, Least, Grid}

-- an item: a member, or a list of items under a head
mutual
  pub data Rule : Type 0 where
    member : ℕ → Rule
    list : Head → Items → Rule

  pub data Items : Type 0 where
    none : Items
    item : Rule → Items → Items

-- a group, by the test of its members
abbrev pub Group : Type 0
Group = ℕ → Bool

abbrev pub every : List Bool → Bool
every [] = true
every (b ∷ bs) = b && every bs

abbrev pub some : List Bool → Bool
some [] = false
some (b ∷ bs) = b || some bs

-- how many are true, counted by position
abbrev pub count : List Bool → ℕ
count [] = 0
count (b ∷ bs) = cond b (suc (count bs)) (count bs)

-- the first r rows of w items
abbrev pub cut : {A : Type 0} → ℕ → ℕ → List A → List (List A)
cut zero w xs = []
cut (suc r) w xs = take w xs ∷ cut r w (drop w xs)

-- a list laid out in rows of w
abbrev pub rows : {A : Type 0} → ℕ → List A → List (List A)
rows w xs = cut (length xs / w) w xs

-- whether a list passes, by which of its items pass
abbrev pub passes_list : Head → List Bool → Bool
passes_list All bs = every bs
passes_list Any bs = some bs
passes_list (Least k) bs = nat_le k (count bs)
passes_list (Grid w) bs = some (map every (rows w bs)) && every (map some (rows w bs))

abbrev mutual
  pub passes : Rule → Group → Bool
  passes (member v) g = g v
  passes (list h is) g = passes_list h (passed is g)

  -- which of the items pass
  pub passed : Items → Group → List Bool
  passed none g = []
  passed (item r is) g = passes r g ∷ passed is g
