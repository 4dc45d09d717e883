-- The keeping memo: its notes, and what it promises beyond other memos. Assumes nothing.
use Rattle.std.specs.Prelude.{◌≡◌, ℕ, ◌+◌, ◌-◌, ◌/◌, ◌<◌, ◌≤◌, min, Bool, true, false, List, [], ◌++◌, length, Ok, Err, Result, ◌≢◌}
use Rattle.interning.specs.declared.interner.Full.{Full}
use Rattle.interning.specs.Chain.{room}
use Rattle.interning.specs.Distinct.{◌∈◌}
use Rattle.memos.specs.declared.diagram.Diagram.{Diagram}
use Rattle.memos.specs.declared.question.Question.{Question}
use Rattle.memos.specs.declared.keeping.KeepingMemo.{KeepingMemo}
use Rattle.memos.specs.declared.keeping.Places.{Places}
use Rattle.memos.specs.declared.keeping.SizeDenied.{SizeDenied}
use Rattle.memos.specs.Arranged.{Crowded, in_use}
use Rattle.memos.specs.Halves.{half_notes, half_room}
use Rattle.memos.specs.Notes.{Note, Noted}
use Rattle.memos.specs.Noting.{asked, noted}

-- the notes of the first half, then those of the second
abbrev pub memo_notes : KeepingMemo → List Note
memo_notes m = half_notes m.first ++ half_notes m.second

-- the notes of the half in use
abbrev pub recent : KeepingMemo → List Note
recent m = in_use m.current (half_notes m.first) (half_notes m.second)

-- how many notes it can hold
abbrev pub memo_room : KeepingMemo → ℕ
memo_room m = half_room m.first + half_room m.second

-- a size that is allowed, with as many slots and answers at least
pub record Fitting (slots answers size : ℕ) : Type 0 where
  pub some : 1 ≤ size
  pub most : size ≤ 65536
  pub slots_do : size ≤ slots
  pub answers_do : size ≤ answers

-- how many notes a memo over the places can hold: of each half no more than a place's number can tell
abbrev pub lent_room : Places → ℕ
lent_room p =
    let size = min (length p.slots.now) (length p.answers.now) in
    room (size - size / 2) + room (size / 2)

-- Places are lent exactly where the size fits, and then so many.
abbrev pub Lent : ℕ → ℕ → ℕ → Result Places SizeDenied → Type 0
Lent slots answers size (Ok p) = Fitting slots answers size × (lent_room p ≡ size)
Lent slots answers size (Err e) = Fitting slots answers size → ⊥

-- an empty memo of the given size
pub record Fresh (size : ℕ) (m : KeepingMemo) : Type 0 where
  pub notes : memo_notes m ≡ []
  pub whole : m.whole ≡ true
  pub room : memo_room m ≡ size

-- How the answer a to q is noted, from the notes ns, of which rs are in the half in use. The new note is held, unless there is
-- no place at all. As long as there is a free place nothing is lost, and the answer is noted at the end or in the place of the
-- old one. Of two places or more, what the half in use holds of other questions is not lost even then.
pub record Holding (whole whole' : Bool) (room : ℕ) (rs ns ns' : List Note) (q : Question) (a : Diagram) : Type 0 where
  pub new : 0 < room → (q, a) ∈ ns'
  pub lasting : whole ≡ true → length ns < room → (whole' ≡ true) × (ns' ≡ noted q a ns)
  pub spared : 2 ≤ room → (p : Question) (b : Diagram) → (p ≢ q) → (p, b) ∈ rs → (p, b) ∈ ns'

-- the half in use has no place left, and no note is for q
pub record Stuck (m : KeepingMemo) (q : Question) : Type 0 where
  pub crowded : Crowded m.current (half_room m.first) (half_room m.second) (half_notes m.first) (half_notes m.second)
  pub unasked : asked q (memo_notes m) ≡ false

-- the note is held as every memo holds it, and as this one does
pub record Taken (m m' : KeepingMemo) (q : Question) (a : Diagram) : Type 0 where
  pub true_to : Noted (m.whole ≡ true) (m'.whole ≡ true) (memo_notes m) (memo_notes m') q a
  pub holding : Holding m.whole m'.whole (memo_room m) (recent m) (memo_notes m) (memo_notes m') q a
  pub room : memo_room m' ≡ memo_room m

-- nothing has changed
pub record Same (m m' : KeepingMemo) : Type 0 where
  pub notes : memo_notes m' ≡ memo_notes m
  pub recent : recent m' ≡ recent m
  pub whole : m'.whole ≡ m.whole
  pub room : memo_room m' ≡ memo_room m

-- The note is held without a half being emptied, or else it has found no place and nothing has changed.
abbrev pub Tried : KeepingMemo → Question → Diagram → Result (Unit {0}) Full → KeepingMemo → Type 0
Tried m q a (Ok u) m' = Taken m m' q a
Tried m q a (Err e) m' = Stuck m' q × Same m m'
