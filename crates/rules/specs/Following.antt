-- How a reader with places of terms follows the reading with rules.
use Rattle.std.specs.Prelude.{◌≡◌, ℕ, List, [], ◌∷◌, ◌++◌, map, Ok, Err, Result}
use Rattle.rules.specs.declared.faults.RuleFault.{RuleFault}
use Rattle.rules.specs.declared.faults.RuleFault.TheVariants.{Token as Unfit}
use Rattle.rules.specs.declared.nest.OpenList.{OpenList}
use Rattle.rules.specs.declared.reader.Wants.{Wants}
use Rattle.rules.specs.declared.reader.Wants.TheVariants.{Item, Figure, Bracket, Nothing}
use Rattle.rules.specs.declared.words.Head.{Head}
use Rattle.rules.specs.declared.words.Word as words
use Rattle.rules.specs.Building.{Held, At, AllAt, Within}
use Rattle.rules.specs.Levels.{added}
use Rattle.rules.specs.Progress.{FramesGood, StageGood}
use Rattle.rules.specs.Reading.{Frame, Stage, State, wants_item, wants_figure, wants_bracket, finished}
use Rattle.rules.specs.Rules.{Rule}
use Rattle.rules.specs.Terms.{Term, expand, subterms}

-- what is wanted after a word
abbrev pub after : words.Word → Wants
after words.Word.All = Bracket Head.All
after words.Word.Any = Bracket Head.Any
after words.Word.Least = Figure words.Word.Least
after words.Word.Grid = Figure words.Word.Grid

-- the reader waits for what the reading waits for
abbrev pub Waits : Held → Wants → Stage → Type 0
Waits h Item wants_item = Unit {0}
Waits h Item (wants_figure v) = ⊥
Waits h Item (wants_bracket y) = ⊥
Waits h Item (finished r) = ⊥
Waits h (Figure w) wants_item = ⊥
Waits h (Figure w) (wants_figure v) = w ≡ v
Waits h (Figure w) (wants_bracket y) = ⊥
Waits h (Figure w) (finished r) = ⊥
Waits h (Bracket x) wants_item = ⊥
Waits h (Bracket x) (wants_figure v) = ⊥
Waits h (Bracket x) (wants_bracket y) = x ≡ y
Waits h (Bracket x) (finished r) = ⊥
Waits h (Nothing p) wants_item = ⊥
Waits h (Nothing p) (wants_figure v) = ⊥
Waits h (Nothing p) (wants_bracket y) = ⊥
Waits h (Nothing p) (finished r) = At h p (expand r)

-- an open list with places stands for one with rules: its places have the terms that the rules expand to
pub record LevelStands (h : Held) (l : OpenList) (f : Frame) : Type 0 where
  pub head : l.head ≡ f.head
  pub items : AllAt h l.places.items (map expand f.items)

abbrev pub LevelsStand : Held → List OpenList → List Frame → Type 0
LevelsStand h [] [] = Unit {0}
LevelsStand h [] (f ∷ fs) = ⊥
LevelsStand h (l ∷ ls) [] = ⊥
LevelsStand h (l ∷ ls) (f ∷ fs) = LevelStands h l f × LevelsStand h ls fs

-- the terms in the items of a list
abbrev pub items_terms : List Rule → List Term
items_terms [] = []
items_terms (r ∷ rs) = subterms (expand r) ++ items_terms rs

abbrev pub frames_terms : List Frame → List Term
frames_terms [] = []
frames_terms (f ∷ fs) = items_terms f.items ++ frames_terms fs

-- the terms that a state of the reading calls for
abbrev pub state_terms : Stage → List Frame → List Term
state_terms wants_item fs = frames_terms fs
state_terms (wants_figure w) fs = frames_terms fs
state_terms (wants_bracket h) fs = frames_terms fs
state_terms (finished r) fs = subterms (expand r)

-- with members up to n, a memory, what is wanted and the open lists follow a state of the reading
pub record Follows (n : ℕ) (h : Held) (w : Wants) (ls : List OpenList) (s : State) : Type 0 where
  pub stage_good : StageGood n s.stage s.frames
  pub frames_good : FramesGood n s.frames
  pub waits : Waits h w s.stage
  pub stand : LevelsStand h ls s.frames
  pub within : Within h (state_terms s.stage s.frames)

-- an outcome follows an outcome of the reading
abbrev pub Steps : ℕ → Held → Result Wants RuleFault → List OpenList → Result State RuleFault → Type 0
Steps n h (Ok w) ls (Ok s) = Follows n h w ls s
Steps n h (Ok w) ls (Err g) = ⊥
Steps n h (Err f) ls (Ok s) = ⊥
Steps n h (Err f) ls (Err g) = f ≡ g

-- an item at a place joins the innermost open list, or is the whole rule
abbrev pub Joined : ℕ → List OpenList → Wants → List OpenList → Type 0
Joined p [] w ms = (w ≡ Nothing p) × (ms ≡ [])
Joined p (l ∷ ls) w ms = (w ≡ Item) × (ms ≡ added p (l ∷ ls))

-- an item is wanted, with these lists open
abbrev pub AtItem : ℕ → Held → List OpenList → List Frame → Type 0
AtItem n h ls fs = Follows n h Item ls (record { stage = wants_item; frames = fs })

-- the end of a text: the place of the whole rule, where nothing more is wanted
abbrev pub Finishes : Wants → ℕ → Result ℕ RuleFault → Type 0
Finishes Item len r = r ≡ Err (Unfit len)
Finishes (Figure w) len r = r ≡ Err (Unfit len)
Finishes (Bracket x) len r = r ≡ Err (Unfit len)
Finishes (Nothing p) len r = r ≡ Ok p
