-- The questions before a call is let in, in their order. The first no denies the call.
use Rattle.std.specs.Prelude.{ℕ, Bool, true, cond, ◌&&◌, List, [], ◌∷◌, ◌++◌, length, is_some, Some, None, Ok, Err, Option, Result, nat_le, nat_lt}
use Rattle.interning.specs.Distinct.{distinct}
use Rattle.rules.specs.declared.faults.RuleFault.{RuleFault}
use Rattle.rules.specs.Terms.{Term}
use Rattle.rules.specs.Outcome as rule
use Rattle.families.specs.Trees.{equal}
use Rattle.families.specs.Outcomes.{Outcome}
use Rattle.calls.specs.declared.faults.Fault.{Fault}
use Rattle.calls.specs.declared.faults.Fault.TheVariants.{Members, Places, Shelf, Empty, Member, Rule, Nodes, Buffer}
use Rattle.calls.specs.Shelves.{Sizes, Shelves, on_shelf, tree_on, shelf_nodes}
use Rattle.calls.specs.Acts.{Act, parts, set, copy, clear, either, both, turn, replace, same, count, verdict, groups, tally, sheet}
use Rattle.calls.specs.Works.{work}
use Rattle.calls.specs.Sheets.{sheet_length}

-- the fault of the first question that is answered no
abbrev pub first_no : List (Option Fault) → Option Fault
first_no [] = None
first_no (None ∷ os) = first_no os
first_no (Some f ∷ os) = Some f

-- a question that is answered yes, or no with its fault
abbrev pub unless : Bool → Fault → Option Fault
unless b f = cond b None (Some f)

-- 3: is every shelf number below 16?
abbrev pub all_shelves : List ℕ → Bool
all_shelves [] = true
all_shelves (i ∷ is) = nat_lt i 16 && all_shelves is

-- 4: does every shelf that is read hold a family?
abbrev pub all_held : Shelves → List ℕ → Bool
all_held ss [] = true
all_held ss (i ∷ is) = is_some (on_shelf ss i) && all_held ss is

-- 5: is the member from 1 to n?
abbrev pub member_no : ℕ → Option ℕ → Option Fault
member_no n None = None
member_no n (Some u) = unless (nat_le 1 u && nat_le u n) Member

-- 6 to 13: is the text let in as a rule, with at most R different terms?
abbrev pub rule_no : Result Term RuleFault → Option Fault
rule_no (Ok t) = None
rule_no (Err f) = Some (Rule f)

abbrev pub text_no : Sizes → Option (List ℕ) → Option Fault
text_no z None = None
text_no z (Some text) = rule_no (rule.outcome z.members z.terms text)

-- how many different nodes there are in the shelves and in the workings of a call
abbrev pub nodes_needed : Shelves → Outcome → ℕ
nodes_needed ss o = length (distinct equal (shelf_nodes ss ++ o.built))

-- 14: are these at most P?
abbrev pub nodes_no : Sizes → Shelves → Option Outcome → Option Fault
nodes_no z ss None = None
nodes_no z ss (Some o) = unless (nat_le (nodes_needed ss o) z.nodes) Nodes

-- how many bytes the buffer has to have
abbrev pub bytes_needed : Shelves → Act → ℕ
bytes_needed ss (set c text) = 0
bytes_needed ss (copy a c) = 0
bytes_needed ss (clear c) = 0
bytes_needed ss (either a b c) = 0
bytes_needed ss (both a b c) = 0
bytes_needed ss (turn a c) = 0
bytes_needed ss (replace a u b c) = 0
bytes_needed ss (same a b) = 0
bytes_needed ss (count a) = 0
bytes_needed ss (verdict a) = 0
bytes_needed ss (groups a n) = 8
bytes_needed ss tally = 0
bytes_needed ss (sheet a) = sheet_length (tree_on ss a)

-- why the call is denied with a buffer of so many bytes, if it is
abbrev pub denial : Sizes → Shelves → Act → ℕ → Option Fault
denial z ss a len =
    first_no
    (unless (all_shelves (parts a).named) Shelf ∷ unless (all_held ss (parts a).sources) Empty ∷ member_no z.members (parts a).member ∷ text_no z (parts a).text
    ∷ nodes_no z ss (work z ss a) ∷ unless (nat_le (bytes_needed ss a) len) Buffer ∷ [])

-- why a bench is not opened with n members, P places for nodes and R for terms, of which so many are handed over
abbrev pub opening : Sizes → ℕ → ℕ → Option Fault
opening z nodes terms =
    first_no
    (unless (nat_le 1 z.members && nat_le z.members 48) Members
    ∷ unless (nat_le 48 z.nodes && (nat_le z.nodes 65536 && (nat_le 64 z.terms && (nat_le z.terms 16384 && (nat_le z.nodes nodes && nat_le z.terms terms))))) Places ∷ [])
