use Rattle.std.proofs.Common.{arith}
use Rattle.diagrams.proofs.Avoids.{node_found}
use Rattle.diagrams.proofs.nodes.avoid.AvoidingFold.node.Goals as goal

pub returns-then-low : goal.returns-then-low
returns-then-low c l h good x y = let told = node_found c.args.self.now.group c.args.member l h good in grind arith

pub returns-then-leaves_out : goal.returns-then-leaves_out
returns-then-leaves_out c l h good x y = let told = node_found c.args.self.now.group c.args.member l h good in grind arith

pub returns-else-leaves_out : goal.returns-else-leaves_out
returns-else-leaves_out c l h good x y = let told = node_found c.args.self.now.group c.args.member l h good in grind arith
