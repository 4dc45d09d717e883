use Rattle.std.proofs.Common.{◌≡◌, ◌%◌, get_or, None, ap, ◌∙◌}
use Rattle.memos.specs.Short.{place_of, read}
use Rattle.memos.proofs.Entries.{recalled_read}
use Rattle.memos.proofs.short.ShortMemoMemo.recall.Goals as goal

pub returns : goal.returns
returns c =
    let m = c.args.self.now in
    let q = c.args.question in
    let answer : c.told.result ≡ read (get_or m.entries (place_of q) None) q = c.told.ensures ∙ ap (λ n. read (get_or m.entries (n % 1024) None) q) c.hash.ensures in
    record { recalled = recalled_read m.entries q _ m.size answer; answer = answer }
