-- The table is the class of each number below 256, which the checker computes.
use Rattle.std.proofs.Common.{arith}
use Rattle.std.proofs.lemmas.List.FromFn.{get_or-map-range_with_len}
use Rattle.rules.specs.Classes.{class}
use Rattle.rules.proofs.classes.ClassFromU8.from.Goals as goal

pub returns : goal.returns
returns c = get_or-map-range_with_len class 0 256 c.from.result c.args.byte _ (omega arith) (omega arith)
