-- A half of the keeping memo: questions by their places, and beside them their answers. Assumes nothing.
use Rattle.std.specs.Prelude.{◌≡◌, ℕ, true, false, ◌⊎◌, List, [], ◌∷◌, length, Ok, Err, Result}
use Rattle.interning.specs.declared.interner.Full.{Full}
use Rattle.interning.specs.Model.{held, capacity}
use Rattle.memos.specs.declared.diagram.Diagram.{Diagram}
use Rattle.memos.specs.declared.question.Question.{Question}
use Rattle.memos.specs.declared.half.Half.{Half}
use Rattle.memos.specs.Notes.{Note}
use Rattle.memos.specs.Noting.{asked, noted}

-- questions with their answers, place by place
unfoldable pub paired : List Question → List Diagram → List Note
paired [] ds = []
paired (q ∷ qs) [] = []
paired (q ∷ qs) (d ∷ ds) = (q, d) ∷ paired qs ds

-- the notes of a half
abbrev pub half_notes : Half → List Note
half_notes h = paired (held h.interner) h.answers.now

-- how many notes a half can hold
abbrev pub half_room : Half → ℕ
half_room h = capacity h.interner

-- no place is left, and none of the notes is for q
pub record Lacks (room : ℕ) (ns : List Note) (q : Question) : Type 0 where
  pub full : length ns ≡ room
  pub unasked : asked q ns ≡ false

-- The note (q, a) is put in, or else there is no place for it and nothing changes.
abbrev pub Put : ℕ → List Note → Question → Diagram → Result (Unit {0}) Full → List Note → Type 0
Put room ns q a (Ok u) ns' = ns' ≡ noted q a ns
Put room ns q a (Err e) ns' = Lacks room ns q × (ns' ≡ ns)

-- (q, a) is the one note, or none is held where there is no place
abbrev pub Alone : ℕ → Question → Diagram → List Note → Type 0
Alone room q a ns = (ns ≡ (q, a) ∷ []) ⊎ ((room ≡ 0) × (ns ≡ []))

-- the note (q, a) is put into ns, and ms stays
pub record Altered (ns ms : List Note) (q : Question) (a : Diagram) (ns' ms' : List Note) : Type 0 where
  pub put : ns' ≡ noted q a ns
  pub stays : ms' ≡ ms

-- The note (q, a) is put into the other half, os, if that has one for q, and else into the current one, cs; or there is no place for it and nothing changes.
abbrev pub Shared : ℕ → List Note → List Note → Question → Diagram → Result (Unit {0}) Full → List Note → List Note → Type 0
Shared room cs os q a (Ok u) cs' os' = ((asked q os ≡ false) × Altered cs os q a cs' os') ⊎ ((asked q os ≡ true) × Altered os cs q a os' cs')
Shared room cs os q a (Err e) cs' os' = Lacks room cs q × (asked q os ≡ false) × (cs' ≡ cs) × (os' ≡ os)
