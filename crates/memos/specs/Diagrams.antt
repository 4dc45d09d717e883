-- How a diagram's number names it. Assumes nothing.
use Rattle.std.specs.Prelude.{ℕ, zero, suc}
use Rattle.memos.specs.declared.diagram.Diagram.{Diagram}
use Rattle.memos.specs.declared.diagram.View.{View}
use Rattle.memos.specs.declared.diagram.View.TheVariants.{None, Always, Node}

-- what a number names: a node's place is two below
abbrev pub named : ℕ → View
named zero = None
named (suc zero) = Always
named (suc (suc place)) = Node place

-- what a diagram is
abbrev pub seen : Diagram → View
seen d = named d.code
