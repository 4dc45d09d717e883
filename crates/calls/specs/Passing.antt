-- What passes on a shelf after a call that is let in, by what passed before it.
use Rattle.std.specs.Prelude.{◌≡◌, ℕ, Bool, false, ◌&&◌, ◌||◌, ◌↔◌, Ok, ◌≢◌}
use Rattle.rules.specs.Rules as rule
use Rattle.rules.specs.Reading.{reading}
use Rattle.families.specs.Sets.{counting}
use Rattle.families.specs.Groups.{Group}
use Rattle.calls.specs.Shelves.{Sizes, Shelves, Stand, on_shelf, passes_on, Passes, Stops}
use Rattle.calls.specs.Acts.{Act, set, copy, clear, either, both, turn, replace, same, count, verdict, groups, tally, sheet}

-- what passes on the stand t is what p says
abbrev PassesSo : Stand → ((ℕ → Bool) → Bool) → Type 0
PassesSo t p = (g : ℕ → Bool) → passes_on t g ≡ p g

-- what passes on the target
abbrev pub PassesAfter : Sizes → Shelves → Act → Shelves → Type 0
PassesAfter z ss (set c text) tt = (r : rule.Rule) → reading z.members text ≡ Ok r → PassesSo (on_shelf tt c) (rule.passes r)
PassesAfter z ss (copy a c) tt = PassesSo (on_shelf tt c) (passes_on (on_shelf ss a))
PassesAfter z ss (clear c) tt = PassesSo (on_shelf tt c) (λ g. false)
PassesAfter z ss (either a b c) tt = PassesSo (on_shelf tt c) (λ g. passes_on (on_shelf ss a) g || passes_on (on_shelf ss b) g)
PassesAfter z ss (both a b c) tt = PassesSo (on_shelf tt c) (λ g. passes_on (on_shelf ss a) g && passes_on (on_shelf ss b) g)
PassesAfter z ss (turn a c) tt = (n : ℕ) → Group n → Passes (on_shelf tt c) n ↔ Stops (on_shelf ss a) n
PassesAfter z ss (replace a u b c) tt = PassesSo (on_shelf tt c) (λ g. passes_on (on_shelf ss a) (counting u (passes_on (on_shelf ss b) g) g))
PassesAfter z ss (same a b) tt = Unit {0}
PassesAfter z ss (count a) tt = Unit {0}
PassesAfter z ss (verdict a) tt = Unit {0}
PassesAfter z ss (groups a n) tt = Unit {0}
PassesAfter z ss tally tt = Unit {0}
PassesAfter z ss (sheet a) tt = Unit {0}

-- every shelf but the target is as it was
abbrev keeps_but : ℕ → Shelves → Shelves → Type 0
keeps_but c ss tt = (i : ℕ) → (i ≢ c) → on_shelf tt i ≡ on_shelf ss i

abbrev pub OthersKept : Shelves → Act → Shelves → Type 0
OthersKept ss (set c text) tt = keeps_but c ss tt
OthersKept ss (copy a c) tt = keeps_but c ss tt
OthersKept ss (clear c) tt = keeps_but c ss tt
OthersKept ss (either a b c) tt = keeps_but c ss tt
OthersKept ss (both a b c) tt = keeps_but c ss tt
OthersKept ss (turn a c) tt = keeps_but c ss tt
OthersKept ss (replace a u b c) tt = keeps_but c ss tt
OthersKept ss (same a b) tt = tt ≡ ss
OthersKept ss (count a) tt = tt ≡ ss
OthersKept ss (verdict a) tt = tt ≡ ss
OthersKept ss (groups a n) tt = tt ≡ ss
OthersKept ss tally tt = tt ≡ ss
OthersKept ss (sheet a) tt = tt ≡ ss
