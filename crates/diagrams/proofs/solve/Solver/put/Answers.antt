use Rattle.std.proofs.Common.{◌≡◌, length, refl, arith}
use Rattle.families.specs.Questions.{sight, opens}
use Rattle.families.proofs.Solving.{good_ask_member}
use Rattle.diagrams.specs.declared.solve.Pending.{Pending}
use Rattle.diagrams.specs.Asking.{ask_at}
use Rattle.diagrams.specs.Memory.{trees}
use Rattle.diagrams.specs.Solving.{told}
use Rattle.diagrams.specs.Stacks.{stacked}
use Rattle.diagrams.proofs.Merely.{closed_out, right_out}
use Rattle.diagrams.proofs.Recalling.{opened_counts, recalled_arrives, recalled_closed, recalled_counts, recalled_more, recalled_right}
use Rattle.diagrams.proofs.Scripted.{seen_none, sight_arrives}
use Rattle.diagrams.proofs.StackLists.{stacked_length, stacked_more}
use Rattle.diagrams.proofs.Stepping.{put_answers, put_deep, put_opens}
use Rattle.diagrams.proofs.solve.Solver.put.Goals as goal

pub returns-in-Some : goal.returns-in-Some
returns-in-Some g c =
    let ts = trees c.args.self.now.nodes.now in
    let a = c.requires.puttable in
    let T = told (g.M.Memo.keeps c.args.self.now.memo.now) ts (g.M.Memo.notes c.args.self.now.memo.now) in
    let good = good_ask_member a.from a.this a.good in
    let arrives = sight_arrives ts T c.in-Some.answer a.this good (c.in-Some.ensures a.this a.asks) in
    record {
      nodes = refl;
      memo = refl;
      notes = refl;
      counts = λ k us ms final chain t. t;
      already = λ k. k;
      steps = put_answers ts T T (λ r h. h) c.args.question (stacked c.args.self.now.stack) a c.in-Some.answer arrives;
    }

pub returns-in-Some-recall : goal.returns-in-Some-recall
returns-in-Some-recall g c =
    let m = c.args.self.now.nodes.now in
    let a = c.requires.puttable in
    let xs = stacked c.args.self.now.stack in
    let q = c.args.question in
    let K = g.M.Memo.keeps c.args.self.now.memo.now in
    let K' = g.M.Memo.keeps c.recall.new.self in
    let ns = g.M.Memo.notes c.args.self.now.memo.now in
    let ns' = g.M.Memo.notes c.recall.new.self in
    let found = c.in-Some-recall.ensures.recalled in
    let all = right_out (trees m) ns c.args.self.now.right in
    let closed = closed_out (trees m) ns all c.args.self.now.closed in
    record {
      nodes = refl;
      memo = refl;
      notes = found.notes;
      counts = recalled_counts K K' m ns ns' q _ found (ask_at (trees m) q) xs c.args.self.now.opened;
      already = found.already;
      steps = put_answers (trees m) (told K (trees m) ns) (told K' (trees m) ns') (recalled_more K K' m ns ns' q _ found) q xs a c.in-Some-recall.answer
          (recalled_arrives K K' m ns ns' q c.in-Some-recall.answer (length xs) a found all closed);
    }

pub push-requires : goal.push-requires
push-requires g c =
    let ts = trees c.args.self.now.nodes.now in
    let a = c.requires.puttable in
    let unseen : sight a.this ≡ opens = seen_none ts (sight a.this) (c.in_default.ensures a.this a.asks) in
    omega (arith, (put_deep ts c.args.question (length (stacked c.args.self.now.stack)) a unseen).1, stacked_length c.args.self.now.stack)

pub returns : goal.returns
returns g c =
    let m = c.args.self.now.nodes.now in
    let a = c.requires.puttable in
    let xs = stacked c.args.self.now.stack in
    let ys = stacked c.push.new.self in
    let q = c.args.question in
    let K = g.M.Memo.keeps c.args.self.now.memo.now in
    let K' = g.M.Memo.keeps c.recall.new.self in
    let ns = g.M.Memo.notes c.args.self.now.memo.now in
    let ns' = g.M.Memo.notes c.recall.new.self in
    let unseen : sight a.this ≡ opens = seen_none (trees m) (sight a.this) (c.in_default.ensures a.this a.asks) in
    let missed = c.in_default-recall.ensures.recalled in
    let begun = c.begin-wait.ensures in
    let x : Pending = record { question = q; frame = c.begin-wait.result.frame } in
    record {
      nodes = refl;
      memo = refl;
      notes = missed.notes;
      counts = opened_counts K K' m ns ns' q x xs ys a unseen missed c.args.self.now.opened c.saturating_add-self.result c.saturating_add-self.ensures refl (stacked_more c.args.self.now.stack c.push.new.self x c.push.ensures.items);
      already = missed.already;
      steps = put_opens (trees m) (told K (trees m) ns) (told K' (trees m) ns') (recalled_more K K' m ns ns' q _ missed) q xs ys a unseen c.begin-wait.result (begun a.this a.asks unseen) (stacked_more c.args.self.now.stack c.push.new.self x c.push.ensures.items);
    }

pub invariant_of-self-in-Some-recall : goal.invariant_of-self-in-Some-recall
invariant_of-self-in-Some-recall g c =
    let s = c.args.self.now in
    let found = c.in-Some-recall.ensures.recalled in
    record { right = recalled_right _ _ s.nodes.now _ _ _ _ found s.right; closed = recalled_closed _ _ s.nodes.now _ _ _ _ found s.closed }

pub invariant_of-self-2 : goal.invariant_of-self-2
invariant_of-self-2 g c =
    let s = c.args.self.now in
    let missed = c.in_default-recall.ensures.recalled in
    record { right = recalled_right _ _ s.nodes.now _ _ _ _ missed s.right; closed = recalled_closed _ _ s.nodes.now _ _ _ _ missed s.closed }
