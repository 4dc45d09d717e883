-- Every shelf that a call reads holds a family, where the call is let in.
use Rattle.std.proofs.Common.{◌≡◌, ℕ, ◌<◌, true, is_some, None, ap, ⊎_elim, arith}
use Rattle.std.specs.List.{AllByRecursion}
use Rattle.std.proofs.ByRecursion.{All-weaker}
use Rattle.std.proofs.lemmas.List.{get_or_past}
use Rattle.std.proofs.lemmas.Bool.{both_ways, cases_lt}
use Rattle.calls.specs.Shelves.{Sizes, Shelves, Stocked, on_shelf}
use Rattle.calls.specs.Acts.{Act, parts}
use Rattle.calls.specs.Denials.{denial}
use Rattle.calls.proofs.Stands.{Stands, held_stands}
use Rattle.calls.proofs.LetIn.{sources_held}

-- there is nothing beyond the shelves
held_below : (n : ℕ) (ss : Shelves) (i : ℕ) → Stocked n ss → is_some (on_shelf ss i) ≡ true → i < 16
held_below n ss i k e = ⊎_elim (λ l. l) (λ l. absurd (both_ways (is_some (on_shelf ss i)) (ap is_some (get_or_past ss i None (omega (arith, k.sixteen)))) e)) (cases_lt i 16)

pub sources_stand : (z : Sizes) (ss : Shelves) (a : Act) (len : ℕ) → Stocked z.members ss → denial z ss a len ≡ None → AllByRecursion (λ i. Stands z.members (on_shelf ss i)) (parts a).sources
sources_stand z ss a len k e =
    All-weaker (λ i. is_some (on_shelf ss i) ≡ true) (λ i. Stands z.members (on_shelf ss i))
    (λ i h. held_stands z.members (on_shelf ss i) h (k.each i (held_below z.members ss i k h)))
    (parts a).sources (sources_held z ss a len e)
