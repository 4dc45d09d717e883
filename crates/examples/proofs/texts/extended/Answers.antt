use Rattle.std.proofs.Common.{◌≡◌, ◌++◌, max, length, string_len, string_bytes, length-append, ap, arith}
use Rattle.std.proofs.lemmas.Result.{IfOk-weaker}
use Rattle.examples.proofs.texts.extended.Goals as goal

pub returns : goal.returns
returns c =
    let text = c.args.text.now in
    let marks = string_bytes c.in_ok-marks.marks in
    IfOk-weaker c.format.result (λ s. string_bytes s ≡ text ++ marks) (λ s. string_len s ≡ max (length text) c.args.len)
    (λ s wrote. let more = rw c.requires at c.in_ok-marks.ensures.len in omega (arith, length-append text marks, ap length wrote, s.bytes.ok.0, c.in_ok-marks.marks.bytes.ok.0)) c.format.ensures.ok
