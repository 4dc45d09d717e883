-- The number, the place and the layer of a bench's fault.
use Rattle.std.specs.Prelude.{ℕ, None, Option}
use Rattle.rules.specs.declared.faults.Layer.{Layer}
use Rattle.rules.specs.Faults as rule
use Rattle.calls.specs.declared.faults.Fault.{Fault}
use Rattle.calls.specs.declared.faults.Fault.TheVariants.{Members, Places, Shelf, Empty, Member, Rule, Nodes, Buffer}

-- the number of the question that was answered no
abbrev pub number : Fault → ℕ
number Members = 1
number Places = 2
number Shelf = 3
number Empty = 4
number Member = 5
number (Rule f) = rule.number f
number Nodes = 14
number Buffer = 15

-- the byte offset of the fault in the rule's text, where it has one
abbrev pub place : Fault → Option ℕ
place Members = None
place Places = None
place Shelf = None
place Empty = None
place Member = None
place (Rule f) = rule.place f
place Nodes = None
place Buffer = None

-- the layer of a fault that has a place
abbrev pub layer : Fault → Option Layer
layer Members = None
layer Places = None
layer Shelf = None
layer Empty = None
layer Member = None
layer (Rule f) = rule.layer f
layer Nodes = None
layer Buffer = None
