use Rattle.std.proofs.Common.{◌≡◌, ◌/◌, ◌%◌, length, ap, ◌∙◌, subst}
use Rattle.rules.specs.Building.{Makes}
use Rattle.rules.specs.Expanding.{parts}
use Rattle.rules.specs.Memory.{view}
use Rattle.rules.specs.Terms.{both, least_of}
use Rattle.rules.proofs.LaidOut.{grid_by_parts}
use Rattle.rules.proofs.Making.{all_at_length, all_at_kept, both_makes}
use Rattle.rules.proofs.Puts.{both_key}
use Rattle.rules.proofs.terms.TermMemory.grid.Goals as goal

pub returns : goal.returns
returns c es s =
    let items = c.args.items.now.items in
    let w = c.args.w in
    let long : length items ≡ length es = all_at_length (view c.args.self.now) items es s in
    let even : length es % w ≡ 0 = subst (λ n. n % w ≡ 0) long c.requires.2 in
    let some = c.least_of_rows-some.ensures es s in
    let each = c.least_of_rows-each.ensures es (all_at_kept some.adds items es s) in
    subst (λ t. Makes (view c.args.self.now) (view c.put.new.self) c.put.result t) (ap (λ n. both (least_of 1 (parts w w es)) (least_of (n / w) (parts w 1 es))) (c.len.ensures.value ∙ long) ∙ grid_by_parts w es even)
    (both_makes _ _ some each (c.put.ensures (both _ _) (both_key (view c.least_of_rows-each.new.self) _ _ _ _ (each.adds.kept _ _ some.at) each.at)))
