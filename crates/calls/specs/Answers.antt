-- What a call that is let in answers, writes, and leaves on the shelves.
use Rattle.std.specs.Prelude.{◌≡◌, ℕ, ◌/◌, List, [], length, Some, None, Option}
use Rattle.families.specs.Trees as tree
use Rattle.families.specs.Trees.{equal}
use Rattle.families.specs.Outcomes.{Outcome}
use Rattle.diagrams.specs.Listing.{page, page_bytes}
use Rattle.calls.specs.declared.answer.Answer.{Answer}
use Rattle.calls.specs.declared.answer.Answer.TheVariants.{Done, Same, Count, Verdict as Judging, Groups, Tally, Sheet}
use Rattle.calls.specs.declared.answer.Verdict.{Verdict}
use Rattle.calls.specs.Shelves.{Sizes, Shelves, Stand, on_shelf, tree_on, put}
use Rattle.calls.specs.Acts.{Act, set, copy, clear, either, both, turn, replace, same, count, verdict, groups, tally, sheet}
use Rattle.calls.specs.Works.{work}
use Rattle.calls.specs.Sheets.{Judged, sheet_bytes, sheet_length}

-- the groups that `groups` writes into so many bytes
abbrev pub listed : Shelves → ℕ → ℕ → ℕ → List ℕ
listed ss a n len = page n (len / 8) (tree.groups (tree_on ss a))

-- The answer, with a buffer of so many bytes. The tally is any number here, and a clash is shown by any pair.
abbrev pub Says : Shelves → Act → ℕ → Answer → Type 0
Says ss (set c text) len r = r ≡ Done
Says ss (copy a c) len r = r ≡ Done
Says ss (clear c) len r = r ≡ Done
Says ss (either a b c) len r = r ≡ Done
Says ss (both a b c) len r = r ≡ Done
Says ss (turn a c) len r = r ≡ Done
Says ss (replace a u b c) len r = r ≡ Done
Says ss (same a b) len r = r ≡ Same (equal (tree_on ss a) (tree_on ss b))
Says ss (count a) len r = r ≡ Count (length (tree.groups (tree_on ss a)))
Says ss (verdict a) len r = (v : Verdict) × (r ≡ Judging v) × Judged (tree_on ss a) v
Says ss (groups a n) len r = r ≡ Groups (length (listed ss a n len))
Says ss tally len r = (k : ℕ) × (r ≡ Tally k)
Says ss (sheet a) len r = r ≡ Sheet (sheet_length (tree_on ss a))

-- the bytes that are written at the front of a buffer of so many
abbrev pub writes : Shelves → Act → ℕ → List ℕ
writes ss (set c text) len = []
writes ss (copy a c) len = []
writes ss (clear c) len = []
writes ss (either a b c) len = []
writes ss (both a b c) len = []
writes ss (turn a c) len = []
writes ss (replace a u b c) len = []
writes ss (same a b) len = []
writes ss (count a) len = []
writes ss (verdict a) len = []
writes ss (groups a n) len = page_bytes (listed ss a n len)
writes ss tally len = []
writes ss (sheet a) len = sheet_bytes (tree_on ss a)

-- the family that was worked out
abbrev pub result : Option Outcome → Stand
result None = None
result (Some o) = Some o.answer

-- the shelves afterwards
abbrev pub changed : Sizes → Shelves → Act → Shelves
changed z ss (set c text) = put c (result (work z ss (set c text))) ss
changed z ss (copy a c) = put c (on_shelf ss a) ss
changed z ss (clear c) = put c None ss
changed z ss (either a b c) = put c (result (work z ss (either a b c))) ss
changed z ss (both a b c) = put c (result (work z ss (both a b c))) ss
changed z ss (turn a c) = put c (result (work z ss (turn a c))) ss
changed z ss (replace a u b c) = put c (result (work z ss (replace a u b c))) ss
changed z ss (same a b) = ss
changed z ss (count a) = ss
changed z ss (verdict a) = ss
changed z ss (groups a n) = ss
changed z ss tally = ss
changed z ss (sheet a) = ss
