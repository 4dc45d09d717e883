use Rattle.std.proofs.Common.{◌+◌, ◌/◌, length, reverse, sym, ap, subst, arith}
use Rattle.diagrams.specs.Listing.{Listed, page}
use Rattle.diagrams.specs.Memory.{trees}
use Rattle.diagrams.specs.Stacks.{stacked}
use Rattle.diagrams.specs.Walking.{AllFit, branch_groups, to_come}
use Rattle.diagrams.proofs.Pages.{Paged, paged_start, paged_skip, paged_more, paged_all, paged_ended}
use Rattle.diagrams.proofs.StackLists.{stacked_more, stacked_none}
use Rattle.diagrams.proofs.Walks.{beyond, paged_at, root_fits, root_groups}
use Rattle.diagrams.proofs.nodes.NodeMemory.list.Goals as goal

pub page-init : goal.page-init
page-init c = (omega arith, paged_start _ _ _, root_fits c.args.self.now c.args.diagram _ _ (stacked_more c.new-later.result c.push.new.self _ c.push.ensures.items) (ap reverse c.new-later.ensures))

pub page-preserved-in-descent : goal.page-preserved-in-descent
page-preserved-in-descent c =
    let ts = trees c.args.self.now in
    let i = c.descent.invariant in
    let paged = paged_at c.page.invariant.1 (stacked_more c.pop.new.self c.page.later _ c.in-Some.ensures.items) i.0 i.1 i.2 in
    (omega arith, paged_skip (branch_groups ts c.descent.branch) (to_come ts (stacked c.descent.later)) paged (beyond ts c.descent.branch c.args.limit c.descent-test.false), i.2.fit.1)

pub page-preserved : goal.page-preserved
page-preserved c =
    let ts = trees c.args.self.now in
    let i = c.descent.invariant in
    let found = c.in-Group.ensures in
    let paged = paged_at c.page.invariant.1 (stacked_more c.pop.new.self c.page.later _ c.in-Some.ensures.items) i.0 i.1 i.2 in
    let more = paged_more (branch_groups ts c.descent.branch) (to_come ts (stacked c.descent.later)) paged c.descent.branch.gathered found.0 c.descent-test.true c.put.new.buffer c.put.ensures in (
      omega arith,
      subst (λ bs. Paged c.args.limit (to_come ts (stacked c.push.new.self)) c.args.buffer.now (c.descent.count + 1) (to_come ts bs) c.put.new.buffer) (sym found.1) more,
      subst (AllFit ts) (sym found.1) i.2.fit.1,
    )

pub returns-then-count-room : goal.returns-then-count-room
returns-then-count-room c t den =
    let i = c.descent.invariant in
    let paged = paged_at c.page.invariant.1 (stacked_more c.pop.new.self c.page.later _ c.in-Some.ensures.items) i.0 i.1 i.2 in
    subst (λ gs. Listed (page c.args.limit (length c.args.buffer.now / 8) gs) c.args.buffer.now c.descent.buffer c.descent.count) (root_groups c.args.self.now c.args.diagram _ _ (stacked_more c.new-later.result c.push.new.self _ c.push.ensures.items) (ap reverse c.new-later.ensures) t den)
    (paged_all paged _ c.if-count-room.true)

pub returns-in_default : goal.returns-in_default
returns-in_default c t den =
    subst (λ gs. Listed (page c.args.limit (length c.args.buffer.now / 8) gs) c.args.buffer.now c.page.buffer c.page.count) (root_groups c.args.self.now c.args.diagram _ _ (stacked_more c.new-later.result c.push.new.self _ c.push.ensures.items) (ap reverse c.new-later.ensures) t den)
    (paged_ended c.page.invariant.1 _ c.page.invariant.0 (ap (to_come (trees c.args.self.now)) (stacked_none c.page.later c.in_default.ensures.variant.1)))
