use Rattle.std.proofs.Common.{◌<◌, ◌≤◌, subst}
use Rattle.rules.proofs.Steps.{bracket_deep, bracket_opened}
use Rattle.rules.proofs.reader.at_bracket.Goals as goal

pub returns-then-depth-ge-DEPTH : goal.returns-then-depth-ge-DEPTH
returns-then-depth-ge-DEPTH c n h fs f = bracket_deep n h _ _ fs _ _ c.in-Open.is f (subst (λ d. 16 ≤ d) c.depth.ensures c.if-depth-ge-DEPTH.true)

pub returns-else-depth-ge-DEPTH : goal.returns-else-depth-ge-DEPTH
returns-else-depth-ge-DEPTH c n h fs f = bracket_opened n h _ _ fs _ _ c.in-Open.is f _ (subst (λ d. d < 16) c.depth.ensures c.if-depth-ge-DEPTH.false) c.open.ensures
