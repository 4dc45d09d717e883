-- What a scanner has still to tell.
use Rattle.std.specs.Prelude.{◌≡◌, ℕ, ◌<◌, ◌≤◌, List, ◌∷◌, length, drop, ◌≢◌, slice_index}
use Rattle.std.specs.List.{between}
use Rattle.rules.specs.declared.classes.Class.{Class}
use Rattle.rules.specs.Classes.{class}
use Rattle.rules.specs.Tokens.{Lexeme, lexemes, classed}

-- the bytes from a place to another are of one class, and it goes no further
pub record OneClass (text : List ℕ) (k : Class) (from to : ℕ) : Type 0 where
  pub onward : from ≤ to
  pub within : to ≤ length text
  pub all : (i : ℕ) → from ≤ i → i < to → class (slice_index text i) ≡ k
  pub stops : to < length text → class (slice_index text to) ≢ k

-- the tokens and faults from a place on
abbrev pub ahead : List ℕ → ℕ → List Lexeme
ahead text at = lexemes at (drop at text)

-- the run at a place ends at another: it is the first token or fault from there on
pub record FirstRun (text : List ℕ) (from to : ℕ) : Type 0 where
  pub onward : from < to
  pub within : to ≤ length text
  pub cut : ahead text from ≡ classed (class (slice_index text from)) from (between from to text) ∷ ahead text to
