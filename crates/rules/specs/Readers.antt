-- How a reader follows the reading.
use Rattle.std.specs.Prelude.{◌≡◌, List, Ok, Err, Result}
use Rattle.rules.specs.declared.faults.RuleFault.{RuleFault}
use Rattle.rules.specs.declared.reader.Reader.{Reader}
use Rattle.rules.specs.declared.reader.Wants.{Wants}
use Rattle.rules.specs.Following.{AtItem, Follows, Steps}
use Rattle.rules.specs.Levels.{levels}
use Rattle.rules.specs.Memory.{view}
use Rattle.rules.specs.Reading.{Frame, State}

-- a reader follows a state of the reading
abbrev pub ReaderFollows : Reader → State → Type 0
ReaderFollows r s = Follows r.n (view r.terms.now) r.wants (levels r.nest) s

-- a reader that waits for an item, with these lists open
abbrev pub ReaderAtItem : Reader → List Frame → Type 0
ReaderAtItem r fs = AtItem r.n (view r.terms.now) (levels r.nest) fs

-- what a reader is to want follows an outcome of the reading
abbrev pub ReaderSteps : Reader → Result Wants RuleFault → Result State RuleFault → Type 0
ReaderSteps r w out = Steps r.n (view r.terms.now) w (levels r.nest) out

-- a reader that took a token follows an outcome of the reading
abbrev pub ReaderTook : Reader → Result Unit RuleFault → Result State RuleFault → Type 0
ReaderTook r (Ok x) out = ReaderSteps r (Ok r.wants) out
ReaderTook r (Err f) out = ReaderSteps r (Err f) out

-- a reader goes on over the same members and in the same memory
pub record SameReader (r s : Reader) : Type 0 where
  pub members : s.n ≡ r.n
  pub memory : s.terms.ghost_name ≡ r.terms.ghost_name
  pub room : (view s.terms.now).room ≡ (view r.terms.now).room
