use Rattle.std.proofs.Common.{◌≡◌, ◌≤◌, [], ◌∷◌, length, sym, ap, ◌∙◌, rules}
use Rattle.std.specs.List.{between}
use Rattle.rules.specs.Classes.{class}
use Rattle.rules.specs.Tokens.{classed}
use Rattle.rules.specs.Scanning.{ahead}
use Rattle.rules.proofs.Cuts.{blanks_ahead, end_ahead}
use Rattle.rules.proofs.scanner.ScannerIterator.next.Goals as goal

pub returns-in_err-get-clause-steps : goal.returns-in_err-get-clause-steps
returns-in_err-get-clause-steps c =
    let text = c.args.self.now.text.now in
    let over : length text ≤ c.run_end-place.result = c.in_err-get.ensures.lookup.3 in
    let none : ahead text c.run_end-place.result ≡ [] = end_ahead text _ over in
    rw c.from_residual.ensures (blanks_ahead text _ _ c.run_end-place.ensures ∙ none, none)

pub returns : goal.returns
returns c =
    let text = c.args.self.now.text.now in
    let at = c.run_end-place.result in
    let end = c.first_end-end.result in
    let told = c.lexeme_of.ensures ∙ ap (λ k. classed k at (between at end text)) (c.from-class.ensures ∙ ap class (c.in_ok-get.ensures.lookup.3.1 0)) in
    let cut : ahead text c.args.self.now.at ≡ c.lexeme_of.result ∷ ahead text end =
    blanks_ahead text _ _ c.run_end-place.ensures ∙ c.first_end-end.ensures.cut ∙ ap (λ l. l ∷ ahead text end) (sym told) in
    let shorter = ap length cut in
    record { steps = cut; goes = search rules }
