-- The number, the place and the layer of a fault.
use Rattle.std.specs.Prelude.{ℕ, List, Some, None, codes, Option}
use Rattle.rules.specs.declared.faults.Layer.{Layer}
use Rattle.rules.specs.declared.faults.RuleFault.{RuleFault}
use Rattle.rules.specs.declared.faults.RuleFault.TheVariants.{Length, Text, Token, Depth, Range, Shape, Terms}
use Rattle.rules.specs.declared.faults.TextFault.TheVariants.{Byte, Word}

-- the number of the question that was answered no
abbrev pub number : RuleFault → ℕ
number Length = 6
number (Text (Byte at)) = 7
number (Text (Word at)) = 8
number (Token at) = 9
number (Depth at) = 10
number (Range at) = 11
number (Shape at) = 12
number Terms = 13

-- the byte offset of the fault, where it has one
abbrev pub place : RuleFault → Option ℕ
place Length = None
place (Text (Byte at)) = Some at
place (Text (Word at)) = Some at
place (Token at) = Some at
place (Depth at) = Some at
place (Range at) = Some at
place (Shape at) = Some at
place Terms = None

-- the layer of a fault that has a place: the text's own faults, and those of the rule that its tokens should spell
abbrev pub layer : RuleFault → Option Layer
layer Length = None
layer (Text fault) = Some Layer.Text
layer (Token at) = Some Layer.Rule
layer (Depth at) = Some Layer.Rule
layer (Range at) = Some Layer.Rule
layer (Shape at) = Some Layer.Rule
layer Terms = None

-- a layer as it is printed
abbrev pub layer_name : Layer → List ℕ
layer_name Layer.Text = codes "text"
layer_name Layer.Rule = codes "rule"
