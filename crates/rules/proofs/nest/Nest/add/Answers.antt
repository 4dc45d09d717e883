use Rattle.std.proofs.Common.{◌≡◌, ℕ, ◌+◌, ◌<◌, true, List, [], ◌∷◌, reverse, length, sym, ap, ◌∙◌, subst, arith}
use Rattle.std.proofs.lemmas.List.{length-append, length-reverse}
use Rattle.rules.specs.declared.nest.Nest.{Nest}
use Rattle.rules.specs.Levels.{levels, levels_in}
use Rattle.rules.specs.Nests.{laid}
use Rattle.rules.proofs.Nests.{depth_levels, laid_few, laid_add, levels_add}
use Rattle.rules.proofs.nest.Nest.add.Goals as goal

-- a list is open
some : (n : Nest) → 0 < length (levels n) → 0 < length (reverse n.lists.items)
some n h = omega (arith, h, depth_levels n, length-reverse n.lists.items)

pub push-requires : goal.push-requires
push-requires c =
    let n = c.args.self.now in
    let os = reverse n.lists.items in
    let more = laid_few os (length n.row.items + 1) (laid_add os n.row.items n.parted (some n c.requires.open) c.requires.roomy) in
    omega (arith, more, n.few, length-reverse n.lists.items)

pub invariant_of-self : goal.invariant_of-self
invariant_of-self c =
    let n = c.args.self.now in
    let os = reverse n.lists.items in
    let xs = n.row.items in
    let more = laid_add os xs n.parted (some n c.requires.open) c.requires.roomy in
    record {
      few = n.few;
      parted = subst (λ (ys : List ℕ). laid os (length ys) ≡ true) (sym c.push.ensures.items) (subst (λ k. laid os k ≡ true) (sym (length-append xs (c.args.item ∷ []))) more);
    }

pub returns : goal.returns
returns c =
    let n = c.args.self.now in
    ap (levels_in (reverse n.lists.items)) c.push.ensures.items ∙ levels_add (reverse n.lists.items) n.row.items c.args.item n.parted (some n c.requires.open)
