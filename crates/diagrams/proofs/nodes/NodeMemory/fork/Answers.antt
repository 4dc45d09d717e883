use Rattle.std.proofs.Common.{sym, subst, arith}
use Rattle.diagrams.specs.Memory.{trees}
use Rattle.diagrams.specs.Stacks.{stacked}
use Rattle.diagrams.specs.Walking.{Forked}
use Rattle.diagrams.proofs.StackLists.{stacked_length, stacked_more}
use Rattle.diagrams.proofs.Walks.{fork_deep, fork_small, forked}
use Rattle.diagrams.proofs.nodes.NodeMemory.fork.Goals as goal

pub push-requires : goal.push-requires
push-requires c =
    let found = c.in-Some.ensures in
    omega (arith, fork_deep c.args.self.now c.args.branch c.in-Node.place c.in-Some.node c.in-Node.ensures found.0 c.in-Some.weight found.1 (stacked c.args.later.now) c.requires, stacked_length c.args.later.now)

pub overflow_add-result : goal.overflow_add-result
overflow_add-result c =
    let found = c.in-Some.ensures in
    omega (arith, fork_small c.args.self.now c.args.branch c.in-Node.place c.in-Some.node c.in-Node.ensures found.0 c.in-Some.weight found.1 (stacked c.args.later.now) c.requires)

pub returns-in-Some : goal.returns-in-Some
returns-in-Some c =
    let m = c.args.self.now in
    let found = c.in-Some.ensures in
    subst (Forked (trees m) c.args.branch (stacked c.args.later.now) _) (sym (stacked_more c.args.later.now c.push.new.self _ c.push.ensures.items))
    (forked m c.args.branch c.in-Node.place c.in-Some.node c.in-Node.ensures found.0 c.in-Some.weight found.1 (stacked c.args.later.now) c.requires)
