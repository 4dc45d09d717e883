use Rattle.std.proofs.Common.{min, ◌∙◌}
use Rattle.diagrams.proofs.frames.begins.split.Goals as goal

pub returns : goal.returns
returns c s t x y = record {
  at = c.min-member.ensures ∙ (λ i. min (c.top.ensures s x i) (c.top-2.ensures t y i));
  f_low = c.parts-f.ensures.low s x;
  f_high = c.parts-f.ensures.high s x;
  g_low = c.parts-g.ensures.low t y;
  g_high = c.parts-g.ensures.high t y;
}
