-- What holds over whole runs of calls, for benches of any sizes.
use Rattle.std.specs.Prelude.{◌≡◌, ℕ, ◌<◌, true, ◌↔◌, List, length, take, Some, None, Ok, Err}
use Rattle.families.specs.Sets.{has, Meet}
use Rattle.families.specs.Groups.{Group, holds, Falling}
use Rattle.families.specs.Trees.{lists}
use Rattle.families.specs.Kinds.{Smallest}
use Rattle.families.specs.Coteries.{Nondominated as Undominated}
use Rattle.calls.specs.declared.answer.Answer.TheVariants.{Sheet, Verdict as Judging}
use Rattle.calls.specs.declared.answer.Verdict.{Verdict}
use Rattle.calls.specs.declared.answer.Verdict.TheVariants.{Nondominated}
use Rattle.calls.specs.declared.faults.Fault.{Fault}
use Rattle.calls.specs.Shelves.{Sizes, Shelves, Stand, Stocked, on_shelf, tree_of, Passes, Stops, SamePassing}
use Rattle.calls.specs.Acts.{Act, sheet, verdict}
use Rattle.calls.specs.Sheets.{numbers_in, sheet_numbers, verdict_number}
use Rattle.calls.specs.Denials.{denial}
use Rattle.calls.specs.Events.{Event, Happens}
use Rattle.calls.specs.Lives.{Life, AnswerAlike}
use Rattle.calls.specs.Passing.{PassesAfter, OthersKept}

-- at some point of the life of some bench, a sheet with these bytes was written of a shelf with that stand
pub record Prints (s : Stand) (bytes : List ℕ) : Type 0 where
  pub sizes : Sizes
  pub events : List Event
  pub shelves : Shelves
  pub life : Life sizes events shelves
  pub event : Event
  pub afterwards : Shelves
  pub happens : Happens sizes shelves event afterwards
  pub shelf : ℕ
  pub stand : on_shelf shelves shelf ≡ s
  pub called : event.call ≡ sheet shelf
  pub length_told : ℕ
  pub told : event.told ≡ Ok (Sheet length_told)
  pub written : take length_told event.after ≡ bytes

-- all passing groups meet, and no coterie on the members 1 to n dominates the smallest of them
pub record Best (n : ℕ) (s : Stand) : Type 0 where
  pub meeting : (m k : ℕ) → Group m → Group k → Passes s m → Passes s k → Meet (holds m) (holds k)
  pub undominated : Undominated n (lists (tree_of s))

-- read eight at a time, the bytes are the head, every smallest passing group, then every smallest stopping one, once each,
-- falling in its part, and no other; the verdict in the head is the family's, and is 1 exactly for the best
pub record Shows (n : ℕ) (s : Stand) (bytes : List ℕ) : Type 0 where
  pub verdict_told : ℕ
  pub verdict_told_is : verdict_told ≡ verdict_number (tree_of s)
  pub best : (verdict_told ≡ 1) ↔ Best n s
  pub passing : List ℕ
  pub stopping : List ℕ
  pub read : numbers_in bytes ≡ sheet_numbers verdict_told passing stopping
  pub passing_falls : Falling passing
  pub passing_all : (m : ℕ) → (has passing m ≡ true) ↔ Smallest (Passes s) m
  pub stopping_falls : Falling stopping
  pub stopping_all : (m : ℕ) → (has stopping m ≡ true) ↔ Smallest (Stops s) m

-- every call is answered, and let in or denied as the questions tell
pub record Answered (z : Sizes) (ss : Shelves) (c : Act) (bytes : List ℕ) : Type 0 where
  pub event : Event
  pub shelves : Shelves
  pub called : event.call ≡ c
  pub handed : event.before ≡ bytes
  pub happens : Happens z ss event shelves

pub record Law : Type 0 where
  -- some answer is always allowed
  pub answered : (z : Sizes) (es : List Event) (ss : Shelves) → Life z es ss → (c : Act) (bytes : List ℕ) → Answered z ss c bytes
  -- a call is denied exactly where a question is answered no, with the first such question's fault
  pub denied : (z : Sizes) (ss tt : Shelves) (e : Event) → Happens z ss e tt → (f : Fault) → (e.told ≡ Err f) ↔ (denial z ss e.call (length e.before) ≡ Some f)
  -- shelves hold only families other than none and always, over the members of the bench
  pub stocked : (z : Sizes) (es : List Event) (ss : Shelves) → Life z es ss → Stocked z.members ss
  -- what passes after a call that is let in
  pub passes : (z : Sizes) (es : List Event) (ss tt : Shelves) (e : Event) → Life z es ss → Happens z ss e tt → denial z ss e.call (length e.before) ≡ None → PassesAfter z ss e.call tt
  pub others : (z : Sizes) (ss tt : Shelves) (e : Event) → Happens z ss e tt → OthersKept ss e.call tt
  -- a buffer keeps its length
  pub lengths : (z : Sizes) (ss tt : Shelves) (e : Event) → Happens z ss e tt → length e.after ≡ length e.before
  -- nondominated is said exactly of the best
  pub nondominated : (z : Sizes) (es : List Event) (ss tt : Shelves) (e : Event) (i : ℕ) (v : Verdict) → Life z es ss → Happens z ss e tt → e.call ≡ verdict i → e.told ≡ Ok (Judging v)
      → (v ≡ Nondominated) ↔ Best z.members (on_shelf ss i)
  -- two sheets are equal byte for byte exactly when the same groups passed then on their shelves
  pub sheets : (s t : Stand) (bytes others : List ℕ) → Prints s bytes → Prints t others → (bytes ≡ others) ↔ SamePassing s t
  pub shows : (s : Stand) (bytes : List ℕ) (p : Prints s bytes) → Shows p.sizes.members s bytes
  -- two benches of equal sizes answer every further list alike exactly when, shelf for shelf, the same groups pass
  pub alike : (z : Sizes) (es fs : List Event) (ss tt : Shelves) → Life z es ss → Life z fs tt → AnswerAlike z ss tt ↔ ((i : ℕ) → i < 16 → SamePassing (on_shelf ss i) (on_shelf tt i))
