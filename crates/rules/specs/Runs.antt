-- A text cut into its longest runs: of digits, of letters, and each other byte that is not blank by itself. Blanks only separate.
use Rattle.std.specs.Prelude.{ℕ, ◌+◌, Bool, false, cond, ◌&&◌, List, [], ◌∷◌, ◌==◌}
use Rattle.rules.specs.declared.classes.Class.{Class}
use Rattle.rules.specs.declared.classes.Class.TheVariants.{Digit, Letter, Open, Close, Blank, Other}
use Rattle.rules.specs.Classes.{class}

-- a run, with the place of its first byte
pub record Run : Type 0 where
  pub place : ℕ
  pub class : Class
  pub bytes : List ℕ

-- a class by its rank
abbrev pub rank : Class → ℕ
rank Digit = 0
rank Letter = 1
rank Open = 2
rank Close = 3
rank Blank = 4
rank Other = 5

-- the first of the runs begins at this place and is of this class
abbrev pub begins : ℕ → Class → List Run → Bool
begins at k [] = false
begins at k (r ∷ rs) = r.place == at && rank r.class == rank k

abbrev pub single : ℕ → Class → ℕ → Run
single at k b = record { place = at; class = k; bytes = b ∷ [] }

-- the byte b of class k at a place, put before a run that it lengthens
abbrev pub lengthen : ℕ → Class → ℕ → List Run → List Run
lengthen at k b [] = single at k b ∷ []
lengthen at k b (r ∷ rs) = record { place = at; class = k; bytes = b ∷ r.bytes } ∷ rs

-- the byte b of class k, a digit or a letter: it lengthens a run of its class that begins right after it
abbrev pub grow : ℕ → Class → ℕ → List Run → List Run
grow at k b rs = cond (begins (at + 1) k rs) (lengthen at k b rs) (single at k b ∷ rs)

-- a byte of class k put before the runs of the bytes after it
abbrev pub lead : ℕ → Class → ℕ → List Run → List Run
lead at Digit b rs = grow at Digit b rs
lead at Letter b rs = grow at Letter b rs
lead at Open b rs = single at Open b ∷ rs
lead at Close b rs = single at Close b ∷ rs
lead at Blank b rs = rs
lead at Other b rs = single at Other b ∷ rs

-- the runs of a text whose first byte is at a place
abbrev pub runs : ℕ → List ℕ → List Run
runs at [] = []
runs at (b ∷ bs) = lead at (class b) b (runs (at + 1) bs)
