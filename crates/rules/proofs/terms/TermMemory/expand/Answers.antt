use Rattle.std.proofs.Common.{sym, ap, ◌∙◌, subst}
use Rattle.rules.specs.Building.{AllAt, Makes}
use Rattle.rules.specs.Memory.{view}
use Rattle.rules.specs.Terms.{expand_list, least_of}
use Rattle.rules.proofs.LeastOf.{least_of_all, least_of_any}
use Rattle.rules.proofs.Making.{all_at_length}
use Rattle.rules.proofs.terms.TermMemory.expand.Goals as goal

pub returns-in-All : goal.returns-in-All
returns-in-All c es s =
    let made = c.least.ensures es (subst (λ ps. AllAt (view c.args.self.now) ps es) (sym c.deref.ensures.0) s) in
    subst (Makes (view c.args.self.now) (view c.least.new.self) c.least.result)
    (ap (λ k. least_of k es) (c.len.ensures.value ∙ all_at_length (view c.args.self.now) c.args.items.now.items es s) ∙ least_of_all es ∙ ap (λ h. expand_list h es) (sym c.in-All.is)) made

pub returns-in-Any : goal.returns-in-Any
returns-in-Any c es s =
    let made = c.least-in-Any.ensures es (subst (λ ps. AllAt (view c.args.self.now) ps es) (sym c.deref-in-Any.ensures.0) s) in
    subst (Makes (view c.args.self.now) (view c.least-in-Any.new.self) c.least-in-Any.result) (least_of_any es ∙ ap (λ h. expand_list h es) (sym c.in-Any.is)) made
