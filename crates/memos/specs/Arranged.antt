-- How the two halves of the keeping memo are filled. Assumes nothing.
use Rattle.std.specs.Prelude.{◌≡◌, ℕ, ◌<◌, Bool, true, List, length, ◌≢◌}
use Rattle.memos.specs.declared.keeping.Current.{Current}
use Rattle.memos.specs.declared.keeping.Current.TheVariants.{First, Second}
use Rattle.memos.specs.declared.question.Question.{Question}
use Rattle.memos.specs.Notes.{Note}
use Rattle.memos.specs.Noting.{asked}

-- the first half is filled before the second is begun
abbrev pub Filling : Current → ℕ → List Note → List Note → Type 0
Filling First room fs ss = length ss ≡ 0
Filling Second room fs ss = length fs ≡ room

-- No question has a note in both halves, and the halves are filled in turn while nothing was lost; `room` is the first one's.
pub record Arranged (current : Current) (whole : Bool) (room : ℕ) (fs ss : List Note) : Type 0 where
  pub apart : (q : Question) → asked q fs ≡ true → asked q ss ≢ true
  pub filling : whole ≡ true → Filling current room fs ss

-- the notes of the half in use
abbrev pub in_use : Current → List Note → List Note → List Note
in_use First fs ss = fs
in_use Second fs ss = ss

-- the half in use has no place left
abbrev pub Crowded : Current → ℕ → ℕ → List Note → List Note → Type 0
Crowded First room_f room_s fs ss = length fs ≡ room_f
Crowded Second room_f room_s fs ss = length ss ≡ room_s

-- The second half follows the first one if it has places; else the first half is begun again.
abbrev pub Follows : Current → ℕ → Current → Type 0
Follows First room_s First = room_s ≡ 0
Follows First room_s Second = 0 < room_s
Follows Second room_s First = Unit {0}
Follows Second room_s Second = ⊥
