use Rattle.std.proofs.Common.{sym, refl, subst, arith}
use mathlib.Core.Logic.{∥∥₁_map}
use Rattle.std.proofs.lemmas.Result.{MatchResult-from_err}
use Rattle.families.specs.Outcomes.{answer}
use Rattle.diagrams.specs.declared.solve.Pending.{Pending}
use Rattle.diagrams.specs.Asking.{ask_at}
use Rattle.diagrams.specs.Memory.{places, trees}
use Rattle.diagrams.specs.Solving.{AllRight, Closed, Tally, told}
use Rattle.diagrams.specs.Stacks.{stacked}
use Rattle.diagrams.proofs.Ending.{ends_closed, ends_counts, ends_notes, ends_steps}
use Rattle.diagrams.proofs.Merely.{right_out}
use Rattle.diagrams.proofs.StackLists.{stacked_length, stacked_more}
use Rattle.diagrams.proofs.Stepping.{grows_none}
use Rattle.diagrams.proofs.Taking.{take_deep, take_fitting, take_grows, take_lacks, take_waits}
use Rattle.diagrams.proofs.Tallying.{tally_waits}
use Rattle.diagrams.proofs.solve.Solver.take.Goals as goal

pub push-requires : goal.push-requires
push-requires g c =
    let ts = trees c.args.self.now.nodes.now in
    let T = told (g.M.Memo.keeps c.args.self.now.memo.now) ts (g.M.Memo.notes c.args.self.now.memo.now) in
    omega (arith, take_deep ts T (stacked c.args.self.now.stack) c.args.newest c.args.answer c.requires.due, stacked_length c.args.self.now.stack)

pub build-requires : goal.build-requires
build-requires g c =
    let ts = trees c.args.self.now.nodes.now in
    let T = told (g.M.Memo.keeps c.args.self.now.memo.now) ts (g.M.Memo.notes c.args.self.now.memo.now) in
    let due = c.requires.due in
    let b = c.in-Done.ensures.continues ts due.pends.then (answer due.next) due.pends.awaits due.arrives.settled.denotes in
    record { fitting = take_fitting ts T (stacked c.args.self.now.stack) c.args.newest c.args.answer due c.in-Done.node b }

pub returns-in_err-built-in-Done : goal.returns-in_err-built-in-Done
returns-in_err-built-in-Done g c =
    let ts = trees c.args.self.now.nodes.now in
    let ts' = trees c.build.new.self in
    let K = g.M.Memo.keeps c.args.self.now.memo.now in
    let ns = g.M.Memo.notes c.args.self.now.memo.now in
    let xs = stacked c.args.self.now.stack in
    let x = c.args.newest in
    let due = c.requires.due in
    let b = c.in-Done.ensures.continues ts due.pends.then (answer due.next) due.pends.awaits due.arrives.settled.denotes in
    let joined = c.in_err-built-in-Done.ensures in
    let lacks = take_lacks ts (told K ts ns) xs x c.args.answer due c.in-Done.node b (places c.args.self.now.nodes.now) ts' (joined.joins b.low_tree b.high_tree b.low_is b.high_is) in
    record {
      grows = grows_none ts ts' (ask_at ts x.question) lacks.same;
      counts = MatchResult-from_err c.from_residual.result _ _ c.from_residual.ensures.0 (λ _. tt);
      already = λ k. k;
      takes = MatchResult-from_err c.from_residual.result _ _ c.from_residual.ensures.0 (λ _. lacks);
      same = joined.same;
      nodes = refl;
      memo = refl;
    }

pub returns-in-Wait : goal.returns-in-Wait
returns-in-Wait g c =
    let ts = trees c.args.self.now.nodes.now in
    let K = g.M.Memo.keeps c.args.self.now.memo.now in
    let ns = g.M.Memo.notes c.args.self.now.memo.now in
    let xs = stacked c.args.self.now.stack in
    let ys = stacked c.push.new.self in
    let x = c.args.newest in
    let y : Pending = record { question = x.question; frame = c.in-Wait.wait.frame } in
    let due = c.requires.due in
    let resumed = c.in-Wait.ensures in
    let waits = resumed.continues ts due.pends.then (answer due.next) due.pends.awaits due.arrives.settled.denotes in
    record {
      grows = grows_none ts ts (ask_at ts x.question) refl;
      counts = λ k us ms final chain t. subst (λ zs. Tally us ms ts ns final zs c.args.self.now.opened) (sym (stacked_more c.args.self.now.stack c.push.new.self y c.push.ensures.items)) (tally_waits us ms ts ns final x y xs c.args.self.now.opened refl t);
      already = λ k. k;
      takes = take_waits ts (told K ts ns) xs x c.args.answer due c.in-Wait.wait ys waits resumed.fewer (stacked_more c.args.self.now.stack c.push.new.self y c.push.ensures.items);
      same = record { room = refl; named = refl };
      nodes = refl;
      memo = refl;
    }

pub returns-in_ok-built-in-Done : goal.returns-in_ok-built-in-Done
returns-in_ok-built-in-Done g c =
    let ts = trees c.args.self.now.nodes.now in
    let ts' = trees c.build.new.self in
    let K = g.M.Memo.keeps c.args.self.now.memo.now in
    let K' = g.M.Memo.keeps c.note.new.self in
    let ns = g.M.Memo.notes c.args.self.now.memo.now in
    let ns' = g.M.Memo.notes c.note.new.self in
    let xs = stacked c.args.self.now.stack in
    let x = c.args.newest in
    let due = c.requires.due in
    let k = c.in-Done.node in
    let b = c.in-Done.ensures.continues ts due.pends.then (answer due.next) due.pends.awaits due.arrives.settled.denotes in
    let joined = c.in_ok-built-in-Done.ensures in
    let d = c.in_ok-built-in-Done.built in
    let j = joined.joins b.low_tree b.high_tree b.low_is b.high_is in
    let noted = c.note.ensures.noted in
    let all = right_out ts ns c.args.self.now.right in
    record {
      grows = take_grows ts (told K ts ns) xs x c.args.answer due k b ts' d j;
      counts = ends_counts K K' ts ns xs x c.args.answer due k b ts' d j ns' all noted c.args.self.now.opened;
      already = noted.already;
      takes = ends_steps K K' ts ns xs x c.args.answer due k b ts' d j ns' all noted;
      same = joined.same;
      nodes = refl;
      memo = refl;
    }

pub invariant_of-self-in-Break-1 : goal.invariant_of-self-in-Break-1
invariant_of-self-in-Break-1 g c =
    let s = c.args.self.now in
    let ts = trees s.nodes.now in
    let ns = g.M.Memo.notes s.memo.now in
    let due = c.requires.due in
    let b = c.in-Done.ensures.continues ts due.pends.then (answer due.next) due.pends.awaits due.arrives.settled.denotes in
    let lacks = c.in_err-built-in-Done.ensures.joins b.low_tree b.high_tree b.low_is b.high_is in
    record {
      right = ∥∥₁_map s.right (λ all. subst (λ us. AllRight us ns) (sym lacks.same) all);
      closed = ∥∥₁_map s.closed (λ closed k. subst (λ us. Closed us ns) (sym lacks.same) (closed k));
    }

pub invariant_of-self-in-Done : goal.invariant_of-self-in-Done
invariant_of-self-in-Done g c =
    let s = c.args.self.now in
    let ts = trees s.nodes.now in
    let ts' = trees c.build.new.self in
    let K = g.M.Memo.keeps s.memo.now in
    let K' = g.M.Memo.keeps c.note.new.self in
    let ns = g.M.Memo.notes s.memo.now in
    let ns' = g.M.Memo.notes c.note.new.self in
    let xs = stacked s.stack in
    let x = c.args.newest in
    let due = c.requires.due in
    let k = c.in-Done.node in
    let b = c.in-Done.ensures.continues ts due.pends.then (answer due.next) due.pends.awaits due.arrives.settled.denotes in
    let d = c.in_ok-built-in-Done.built in
    let j = c.in_ok-built-in-Done.ensures.joins b.low_tree b.high_tree b.low_is b.high_is in
    let noted = c.note.ensures.noted in
    let all = right_out ts ns s.right in
    record {
      right = ∣ ends_notes K K' ts ns xs x c.args.answer due k b ts' d j ns' all noted ∣₁;
      closed = ∥∥₁_map s.closed (ends_closed K K' ts ns xs x c.args.answer due k b ts' d j ns' all noted);
    }
