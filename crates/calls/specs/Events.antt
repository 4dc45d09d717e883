-- A call with all that is handed over and told, and what it does to the shelves.
use Rattle.std.specs.Prelude.{◌≡◌, ℕ, List, length, Some, None, Ok, Err, Result}
use Rattle.calls.specs.declared.answer.Answer.{Answer}
use Rattle.calls.specs.declared.faults.Fault.{Fault}
use Rattle.calls.specs.Shelves.{Sizes, Shelves}
use Rattle.calls.specs.Acts.{Act}
use Rattle.calls.specs.Sheets.{over}
use Rattle.calls.specs.Denials.{denial}
use Rattle.calls.specs.Answers.{Says, writes, changed}

-- a call, its buffer's bytes before and afterwards, and what it tells or is denied with
pub record Event : Type 0 where
  pub call : Act
  pub before : List ℕ
  pub told : Result Answer Fault
  pub after : List ℕ

-- the call is let in: it answers, writes at the front of its buffer, and changes the shelves as it should
pub record LetIn (z : Sizes) (ss : Shelves) (c : Act) (before : List ℕ) (r : Answer) (after : List ℕ) (tt : Shelves) : Type 0 where
  pub no_denial : denial z ss c (length before) ≡ None
  pub says : Says ss c (length before) r
  pub bytes : after ≡ over (writes ss c (length before)) before
  pub shelves : tt ≡ changed z ss c

-- the call is denied: shelves and bytes stay
pub record Denied (z : Sizes) (ss : Shelves) (c : Act) (before : List ℕ) (f : Fault) (after : List ℕ) (tt : Shelves) : Type 0 where
  pub first : denial z ss c (length before) ≡ Some f
  pub bytes : after ≡ before
  pub shelves : tt ≡ ss

abbrev pub Tells : Sizes → Shelves → Act → List ℕ → Result Answer Fault → List ℕ → Shelves → Type 0
Tells z ss c before (Ok r) after tt = LetIn z ss c before r after tt
Tells z ss c before (Err f) after tt = Denied z ss c before f after tt

-- from the shelves ss the event leads to the shelves tt
abbrev pub Happens : Sizes → Shelves → Event → Shelves → Type 0
Happens z ss e tt = Tells z ss e.call e.before e.told e.after tt
