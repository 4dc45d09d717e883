-- A state of the reading that is in order so far.
use Rattle.std.specs.Prelude.{◌≡◌, ℕ, suc, ◌<◌, ◌≤◌, false, List, [], ◌∷◌, length}
use Rattle.rules.specs.declared.words.Word as words
use Rattle.rules.specs.Reading.{Frame, Stage, wants_item, wants_figure, wants_bracket, finished, items_of, crowded}
use Rattle.rules.specs.Spelling.{Figure, InOrder, AllInOrder}

-- the words that take a figure
abbrev pub TakesFigure : words.Word → Type 0
TakesFigure words.Word.All = ⊥
TakesFigure words.Word.Any = ⊥
TakesFigure words.Word.Least = Unit {0}
TakesFigure words.Word.Grid = Unit {0}

abbrev pub NoneOpen : List Frame → Type 0
NoneOpen [] = Unit {0}
NoneOpen (f ∷ fs) = ⊥

-- every open list is in order so far, and has room where another is open in it
abbrev pub FramesGood : ℕ → List Frame → Type 0
FramesGood n [] = Unit {0}
FramesGood n (f ∷ fs) = (length fs < 16) × Figure f.head × (length f.items ≤ 64) × AllInOrder n (suc (length fs)) (items_of f.items) × (crowded fs ≡ false) × FramesGood n fs

abbrev pub StageGood : ℕ → Stage → List Frame → Type 0
StageGood n wants_item fs = Unit {0}
StageGood n (wants_figure w) fs = TakesFigure w × (crowded fs ≡ false)
StageGood n (wants_bracket h) fs = Figure h × (crowded fs ≡ false)
StageGood n (finished r) fs = NoneOpen fs × InOrder n 0 r
