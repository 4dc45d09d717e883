use Rattle.std.proofs.Common.{◌≡◌, length, ap, arith, rules}
use Rattle.std.proofs.lemmas.List.{nil_from_length}
use Rattle.std.proofs.lemmas.Bool.{eqb-true, eq-eqb}
use Rattle.interning.specs.Model.{held}
use Rattle.memos.specs.Halves.{half_notes}
use Rattle.memos.proofs.Halves.{half_length}
use Rattle.memos.proofs.half.Half.is_empty.Goals as goal

pub returns : goal.returns
returns c =
    let h = c.args.self.now in
    let long : c.len.result ≡ length (held h.interner) = search rules in (
      (λ e. nil_from_length (half_notes h) (omega (arith, half_length h, long, eqb-true c.len.result 0 e))),
      (λ e. eq-eqb c.len.result 0 (omega (arith, half_length h, long, ap length e))),
    )
