-- The reading of a text: the rule that its tokens spell, or the fault at the earliest place, and at one place the one with the smallest number.
use Rattle.std.specs.Prelude.{ℕ, ◌%◌, Bool, true, false, cond, ◌&&◌, List, [], ◌∷◌, ◌++◌, length, Ok, Err, Result, ◌==◌, nat_le}
use Rattle.rules.specs.declared.faults.RuleFault.{RuleFault}
use Rattle.rules.specs.declared.faults.RuleFault.TheVariants.{Length, Text, Token, Depth, Range, Shape}
use Rattle.rules.specs.declared.tokens.Kind.{Kind}
use Rattle.rules.specs.declared.tokens.Kind.TheVariants.{Number, Word, Open, Close}
use Rattle.rules.specs.declared.words.Head.{Head}
use Rattle.rules.specs.declared.words.Word as words
use Rattle.rules.specs.Rules.{Rule, Items, none, item, member, list}
use Rattle.rules.specs.Tokens.{Lexeme, lexemes}

-- a list whose bracket is open: its head and the items read so far
pub record Frame : Type 0 where
  pub head : Head
  pub items : List Rule

-- what the reading waits for
pub data Stage : Type 0 where
  wants_item : Stage
  wants_figure : words.Word → Stage
  wants_bracket : Head → Stage
  finished : Rule → Stage

-- the innermost open list stands first
pub record State : Type 0 where
  pub stage : Stage
  pub frames : List Frame

abbrev pub start : State
start = record { stage = wants_item; frames = [] }

-- the items of a list
abbrev pub items_of : List Rule → Items
items_of [] = none
items_of (r ∷ rs) = item r (items_of rs)

-- a number lies from 1 to a limit
abbrev pub in_range : ℕ → ℕ → Bool
in_range limit v = nat_le 1 v && nat_le v limit

-- the head of a word that takes a figure, with that figure
abbrev pub figured : words.Word → ℕ → Head
figured words.Word.All k = Head.All
figured words.Word.Any k = Head.Any
figured words.Word.Least k = Head.Least k
figured words.Word.Grid k = Head.Grid k

-- after a word: its figure, or its bracket where it takes none
abbrev pub after_word : words.Word → Stage
after_word words.Word.All = wants_bracket Head.All
after_word words.Word.Any = wants_bracket Head.Any
after_word words.Word.Least = wants_figure words.Word.Least
after_word words.Word.Grid = wants_figure words.Word.Grid

-- the innermost list has 64 items
abbrev pub crowded : List Frame → Bool
crowded [] = false
crowded (f ∷ fs) = nat_le 64 (length f.items)

-- m items fit a head
abbrev pub fits : Head → ℕ → Bool
fits Head.All m = true
fits Head.Any m = true
fits (Head.Least k) m = nat_le k m
fits (Head.Grid w) m = m % w == 0

-- an item has been read: it joins the innermost open list, or is the whole rule
abbrev pub joined : Rule → List Frame → State
joined r [] = record { stage = finished r; frames = [] }
joined r (f ∷ fs) = record { stage = wants_item; frames = record { head = f.head; items = f.items ++ (r ∷ []) } ∷ fs }

-- a closing bracket where an item is wanted
abbrev pub close : ℕ → List Frame → Result State RuleFault
close at [] = Err (Token at)
close at (f ∷ fs) =
    cond (length f.items == 0) (Err (Token at))
    (cond (fits f.head (length f.items)) (Ok (joined (list f.head (items_of f.items)) fs)) (Err (Shape at)))

-- a token where an item is wanted
abbrev pub at_item : ℕ → ℕ → Kind → List Frame → Result State RuleFault
at_item n at (Number v) fs =
    cond (in_range n v) (cond (crowded fs) (Err (Shape at)) (Ok (joined (member v) fs))) (Err (Range at))
at_item n at (Word w) fs = cond (crowded fs) (Err (Shape at)) (Ok (record { stage = after_word w; frames = fs }))
at_item n at Open fs = Err (Token at)
at_item n at Close fs = close at fs

-- a token where a word's figure is wanted
abbrev pub at_figure : ℕ → Kind → words.Word → List Frame → Result State RuleFault
at_figure at (Number v) w fs =
    cond (in_range 64 v) (Ok (record { stage = wants_bracket (figured w v); frames = fs })) (Err (Range at))
at_figure at (Word x) w fs = Err (Token at)
at_figure at Open w fs = Err (Token at)
at_figure at Close w fs = Err (Token at)

-- a token where a list's bracket is wanted
abbrev pub at_bracket : ℕ → Kind → Head → List Frame → Result State RuleFault
at_bracket at (Number v) h fs = Err (Token at)
at_bracket at (Word w) h fs = Err (Token at)
at_bracket at Open h fs =
    cond (nat_le 16 (length fs)) (Err (Depth at)) (Ok (record { stage = wants_item; frames = record { head = h; items = [] } ∷ fs }))
at_bracket at Close h fs = Err (Token at)

-- one token more
abbrev pub step : ℕ → Stage → List Frame → ℕ → Kind → Result State RuleFault
step n wants_item fs at k = at_item n at k fs
step n (wants_figure w) fs at k = at_figure at k w fs
step n (wants_bracket h) fs at k = at_bracket at k h fs
step n (finished r) fs at k = Err (Token at)

-- the end of a text of this length
abbrev pub finish : ℕ → Stage → Result Rule RuleFault
finish len wants_item = Err (Token len)
finish len (wants_figure w) = Err (Token len)
finish len (wants_bracket h) = Err (Token len)
finish len (finished r) = Ok r

-- the tokens from a state on; the first fault ends the reading
abbrev pub run : ℕ → ℕ → Result State RuleFault → List Lexeme → Result Rule RuleFault
run n len (Err fault) ls = Err fault
run n len (Ok s) [] = finish len s.stage
run n len (Ok s) (Err fault ∷ ls) = Err (Text fault)
run n len (Ok s) (Ok t ∷ ls) = run n len (step n s.stage s.frames t.place t.kind) ls

-- the rule that a text is, for members up to n, or why it is none
abbrev pub reading : ℕ → List ℕ → Result Rule RuleFault
reading n text = cond (nat_le (length text) 4096) (run n (length text) (Ok start) (lexemes 0 text)) (Err Length)
