-- A call leaves its buffer as long as it was: it never writes more bytes than there are.
use Rattle.std.proofs.Common.{◌≡◌, ℕ, ◌/◌, ◌≤◌, List, length, drop, None, Ok, Err, Result, ap, ◌∙◌, arith, length-append, length-drop, length-take}
use Rattle.families.specs.Trees as tree
use Rattle.diagrams.specs.Listing.{below}
use Rattle.calls.specs.declared.answer.Answer.{Answer}
use Rattle.calls.specs.declared.faults.Fault.{Fault}
use Rattle.calls.specs.Shelves.{Sizes, Shelves, tree_on}
use Rattle.calls.specs.Acts.{Act, set, copy, clear, either, both, turn, replace, same, count, verdict, groups, tally, sheet}
use Rattle.calls.specs.Sheets.{over}
use Rattle.calls.specs.Denials.{denial}
use Rattle.calls.specs.Answers.{listed, writes}
use Rattle.calls.specs.Events.{Event, Happens, Tells}
use Rattle.calls.proofs.Bytes.{length_page}
use Rattle.calls.proofs.LetIn.{bytes_fit}
use Rattle.calls.proofs.SheetBytes.{length_sheet}

length_over : (ws bs : List ℕ) → length ws ≤ length bs → length (over ws bs) ≡ length bs
length_over ws bs fits = omega (arith, length-append ws (drop (length ws) bs), length-drop (length ws) bs)

writes_few : (z : Sizes) (ss : Shelves) (a : Act) (len : ℕ) → denial z ss a len ≡ None → length (writes ss a len) ≤ len
writes_few z ss (set c text) len e = omega arith
writes_few z ss (copy a c) len e = omega arith
writes_few z ss (clear c) len e = omega arith
writes_few z ss (either a b c) len e = omega arith
writes_few z ss (both a b c) len e = omega arith
writes_few z ss (turn a c) len e = omega arith
writes_few z ss (replace a u b c) len e = omega arith
writes_few z ss (same a b) len e = omega arith
writes_few z ss (count a) len e = omega arith
writes_few z ss (verdict a) len e = omega arith
writes_few z ss (groups a n) len e = omega (arith, length_page (listed ss a n len), length-take (len / 8) (below n (tree.groups (tree_on ss a))))
writes_few z ss tally len e = omega arith
writes_few z ss (sheet a) len e = omega (arith, length_sheet (tree_on ss a), bytes_fit z ss (sheet a) len e)

tells_kept : (z : Sizes) (ss tt' : Shelves) (a : Act) (before : List ℕ) (r : Result Answer Fault) (after : List ℕ) → Tells z ss a before r after tt' → length after ≡ length before
tells_kept z ss tt' a before (Ok r) after h = ap length h.bytes ∙ length_over (writes ss a (length before)) before (writes_few z ss a (length before) h.no_denial)
tells_kept z ss tt' a before (Err f) after h = ap length h.bytes

pub buffer_kept : (z : Sizes) (ss tt' : Shelves) (e : Event) → Happens z ss e tt' → length e.after ≡ length e.before
buffer_kept z ss tt' e h = tells_kept z ss tt' e.call e.before e.told e.after h
