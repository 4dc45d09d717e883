use Rattle.std.proofs.Common.{sym, ◌∙◌}
use Rattle.rules.proofs.Nests.{depth_levels}
use Rattle.rules.proofs.nest.Nest.depth.Goals as goal

pub returns : goal.returns
returns c = c.len.ensures.value ∙ sym (depth_levels c.args.self.now)
