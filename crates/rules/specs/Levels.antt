-- The open lists of a nest, the innermost first.
use Rattle.std.specs.Prelude.{ℕ, Bool, false, List, [], ◌∷◌, ◌++◌, reverse, length, drop, take, nat_le}
use Rattle.rules.specs.declared.nest.Nest.{Nest}
use Rattle.rules.specs.declared.nest.OpenList.{OpenList}
use Rattle.rules.specs.declared.nest.Opened.{Opened}

-- the lists, the innermost first, with their items in a row
abbrev pub levels_in : List Opened → List ℕ → List OpenList
levels_in [] xs = []
levels_in (o ∷ os) xs = record { head = o.head; places = record { items = drop o.first xs } } ∷ levels_in os (take o.first xs)

abbrev pub levels : Nest → List OpenList
levels n = levels_in (reverse n.lists.items) n.row.items

-- the innermost list has 64 items
abbrev pub crowded : List OpenList → Bool
crowded [] = false
crowded (l ∷ ls) = nat_le 64 (length l.places.items)

-- an item more in the innermost list
abbrev pub added : ℕ → List OpenList → List OpenList
added p [] = []
added p (l ∷ ls) = record { head = l.head; places = record { items = l.places.items ++ (p ∷ []) } } ∷ ls
