-- How the items of all open lists lie in one row.
use Rattle.std.specs.Prelude.{ℕ, ◌+◌, Bool, ◌&&◌, List, [], ◌∷◌, nat_eq, nat_le}
use Rattle.rules.specs.declared.nest.Opened.{Opened}

-- lists, the innermost first, part a row of n items: each has at most 64, and they are all of them
abbrev pub laid : List Opened → ℕ → Bool
laid [] n = nat_eq n 0
laid (o ∷ os) n = nat_le o.first n && (nat_le n (o.first + 64) && laid os o.first)
