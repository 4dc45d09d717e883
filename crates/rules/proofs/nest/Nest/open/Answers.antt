use Rattle.std.proofs.Common.{◌≡◌, true, List, reverse, length, sym, subst, arith}
use Rattle.rules.specs.declared.nest.Opened.{Opened}
use Rattle.rules.specs.Nests.{laid}
use Rattle.rules.proofs.Nests.{depth_levels, laid_from, reverse_push}
use Rattle.rules.proofs.nest.Nest.open.Goals as goal

pub push-requires : goal.push-requires
push-requires c = omega (arith, depth_levels c.args.self.now, c.requires)

pub invariant_of-self : goal.invariant_of-self
invariant_of-self c =
    let n = c.args.self.now in
    let k = length n.row.items in
    let o : Opened = record { head = c.args.head; first = c.len-first.result } in
    let here = c.len-first.ensures.value in
    record {
      few = omega (arith, c.push.ensures.len, depth_levels n, c.requires);
      parted = subst (λ (os : List Opened). laid (reverse os) k ≡ true) (sym c.push.ensures.items)
          (subst (λ os. laid os k ≡ true) (sym (reverse_push n.lists.items o))
          (laid_from o (reverse n.lists.items) k (omega (arith, here)) (omega (arith, here)) (subst (λ j. laid (reverse n.lists.items) j ≡ true) (sym here) n.parted)));
    }
