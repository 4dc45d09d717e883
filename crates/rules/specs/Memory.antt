-- A term memory as the list of its terms.
use Rattle.interning.specs.Decode.{decode}
use Rattle.interning.specs.Model.{held, capacity}
use Rattle.rules.specs.declared.terms.TermMemory.{TermMemory}
use Rattle.rules.specs.Building.{Held}
use Rattle.rules.specs.TermKeys.{tree}

abbrev pub view : TermMemory → Held
view m = record { terms = decode tree (held m.interner); room = capacity m.interner; over = m.overfull }
