use Rattle.std.proofs.Common.{sym, ◌∙◌, rules}
use Rattle.std.proofs.lemmas.Iterator.{YieldsList-from_slice}
use Rattle.std.proofs.lemmas.Iterator.Consumers.{fold_from_yields_List}
use Rattle.rules.proofs.Numerals.{capped, value_read}
use Rattle.rules.proofs.scanner.value_of.Goals as goal

pub returns : goal.returns
returns c =
    let digits = c.args.digits.now in
    fold_from_yields_List _ capped 0 _ c.fold.ensures.ran (YieldsList-from_slice digits c.iter.ensures.rest) (λ v x r q k. search rules)
    ∙ value_read digits (sym c.starts_with.ensures.value ∙ c.if-starts_with.false)
