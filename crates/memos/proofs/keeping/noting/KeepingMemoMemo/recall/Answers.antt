use Rattle.std.proofs.Common.{◌≡◌, true, refl}
use Rattle.memos.specs.Halves.{half_notes}
use Rattle.memos.proofs.Trying.{told_first, told_second}
use Rattle.memos.proofs.keeping.noting.KeepingMemoMemo.recall.Goals as goal

pub returns-in-Some : goal.returns-in-Some
returns-in-Some c =
    let m = c.args.self.now in
    let told = λ (keeps : Type 0). told_first keeps (half_notes m.first) (half_notes m.second) c.args.question c.in-Some.answer c.in-Some.ensures in
    record { recalled = record { told = told (m.whole ≡ true); notes = refl; still = λ k. k; already = λ k. k }; told = told (Unit {0}) }

pub returns-in-None : goal.returns-in-None
returns-in-None c =
    let m = c.args.self.now in
    let told = λ (keeps : Type 0). told_second keeps (half_notes m.first) (half_notes m.second) c.args.question c.recall-in-None.result c.in-None.ensures c.recall-in-None.ensures in
    record { recalled = record { told = told (m.whole ≡ true); notes = refl; still = λ k. k; already = λ k. k }; told = told (Unit {0}) }
