use Rattle.std.proofs.Common.{◌≡◌, [], length, Ok, Err, sym, refl, ap, ◌∙◌, subst, rules}
use Rattle.std.proofs.lemmas.Result.{err_from_is_err_and}
use Rattle.rules.specs.Building.{Held}
use Rattle.rules.specs.Following.{AtItem}
use Rattle.rules.specs.Levels.{levels}
use Rattle.rules.specs.Memory.{view}
use Rattle.rules.specs.Outcome.{ReadOff}
use Rattle.rules.specs.Reading.{run, start}
use Rattle.rules.specs.Scanners.{left}
use Rattle.rules.specs.Tokens.{lexemes}
use Rattle.rules.proofs.Onward.{start_follows, token_refused, token_taken}
use Rattle.rules.proofs.read.read_tokens.Goals as goal

pub loop-lexeme-init : goal.loop-lexeme-init
loop-lexeme-init c =
    let h = view c.args.terms.now in
    let whole : left c.into_iter-lexeme-iterator.result ≡ lexemes 0 c.args.text.now = ap left c.into_iter-lexeme-iterator.ensures.into_iter_gives ∙ c.new-lexeme-items.ensures in
    record {
      same = record { members = refl; memory = refl; room = refl };
      onward = record {
        state = start;
        follows =
            subst (λ ls. AtItem c.args.n h ls []) (sym c.new.ensures)
            (start_follows c.args.n h (ap (λ (x : Held). x.terms) c.requires) (ap (λ (x : Held). x.over) c.requires));
        gives = ap (run c.args.n (length c.args.text.now) (Ok start)) whole;
      };
    }

pub loop-lexeme-preserved : goal.loop-lexeme-preserved
loop-lexeme-preserved c =
    let before = c.loop-lexeme.invariant.same in
    let after = c.in_ok-take.ensures.same in
    record {
      same = record { members = after.members ∙ before.members; memory = after.memory ∙ before.memory; room = after.room ∙ before.room };
      onward = token_taken c.loop-lexeme.invariant.onward _ _ c.in_ok-lexeme.field-0 _ _ (left c.next.new.self) after.members
          (rw c.in_ok-lexeme.was at c.in-Some.ensures.steps) c.in_ok-take.ensures.steps;
    }

pub returns-in_err-take-clause-reads : goal.returns-in_err-take-clause-reads
returns-in_err-take-clause-reads c =
    let p = err_from_is_err_and c.from_residual-in_err-take.result c.from_residual-in_err-take.ensures.1 in
    let told : (h : Held) → ReadOff c.args.n c.args.text.now h c.from_residual-in_err-take.result = λ h.
    subst (λ n. ReadOff n c.args.text.now h c.from_residual-in_err-take.result) c.loop-lexeme.invariant.same.members (subst (ReadOff c.loop-lexeme.reader.n c.args.text.now h) (sym (p.1 ∙ ap Err p.2))
    (token_refused c.loop-lexeme.invariant.onward c.take.new.self.n (view c.take.new.self.terms.now) h c.in_ok-lexeme.field-0 (levels c.take.new.self.nest) c.in_err-take.field-0.0 (left c.next.new.self)
    (rw c.in_ok-lexeme.was at c.in-Some.ensures.steps) c.in_err-take.ensures.steps)) in
    search (rules, told)
