use Rattle.std.proofs.Common.{◌≡◌, sym, ap, ◌∙◌, subst}
use Rattle.std.proofs.lemmas.Bool.{eq-eqb, eqb-true}
use Rattle.diagrams.specs.Building.{Denotes}
use Rattle.diagrams.specs.Memory.{trees}
use Rattle.diagrams.specs.NodeKeys.{tree_at}
use Rattle.diagrams.proofs.Memories.{denotes_once}
use Rattle.diagrams.proofs.nodes.NodeMemory.same.Goals as goal

pub returns : goal.returns
returns c s t x y = (
  (λ e. let same : c.args.one ≡ c.args.other = λ i. record { code = eqb-true _ _ (sym c.eq.ensures ∙ e) i } in sym x.is ∙ ap (tree_at (trees c.args.self.now)) same ∙ y.is),
  (λ e. c.eq.ensures ∙ eq-eqb _ _ (ap (λ d. d.code) (denotes_once c.args.self.now c.args.one c.args.other t (subst (Denotes (trees c.args.self.now) c.args.one) e x) y))),
)
