use Rattle.std.proofs.Common.{◌≡◌, ◌+◌, ◌*◌, ◌∷◌, ◌++◌, length, string_len, string_bytes, length-append, ap, arith}
use Rattle.std.proofs.lemmas.Result.{IfOk-weaker}
use Rattle.examples.proofs.texts.nested.Goals as goal

pub returns : goal.returns
returns c =
    let opening = string_bytes c.in_ok-opening.opening in
    let closing = string_bytes c.in_ok-closing.closing in
    IfOk-weaker c.format.result (λ s. string_bytes s ≡ opening ++ (49 ∷ closing)) (λ s. string_len s ≡ 5 * c.args.depth + 1)
    (λ s wrote. omega (arith, length-append opening (49 ∷ closing), ap length wrote, s.bytes.ok.0, c.in_ok-opening.opening.bytes.ok.0, c.in_ok-closing.closing.bytes.ok.0, c.in_ok-opening.ensures.len, c.in_ok-closing.ensures.len)) c.format.ensures.ok
