use Rattle.std.proofs.Common.{◌%◌, set, Some, ap}
use Rattle.memos.proofs.Entries.{only_put}
use Rattle.memos.proofs.short.ShortMemoMemo.note.Goals as goal

pub returns : goal.returns
returns c = record {
  noted = record { only = only_put c.args.self.now.entries _ _ _; already = λ k. k; new = λ k. absurd k; others = λ k. absurd k };
  entries = ap (λ n. set c.args.self.now.entries (n % 1024) (Some (c.args.question, c.args.answer))) c.hash.ensures;
}
