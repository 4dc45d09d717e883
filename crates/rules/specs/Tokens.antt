-- What each run of a text is: a token, or a fault of the text.
use Rattle.std.specs.Prelude.{ℕ, ◌+◌, ◌-◌, ◌*◌, min, cond, List, [], ◌∷◌, map, Some, None, Ok, Err, Option, Result, ◌==◌}
use Rattle.rules.specs.declared.classes.Class.{Class}
use Rattle.rules.specs.declared.classes.Class.TheVariants.{Digit, Letter, Open, Close, Blank, Other}
use Rattle.rules.specs.declared.faults.TextFault.{TextFault}
use Rattle.rules.specs.declared.tokens.Kind.{Kind}
use Rattle.rules.specs.declared.tokens.Token.{Token}
use Rattle.rules.specs.declared.words.Word.{Word}
use Rattle.rules.specs.Runs.{Run, runs}
use Rattle.rules.specs.Words.{word}

-- digits read on from a value
abbrev pub decimal : ℕ → List ℕ → ℕ
decimal v [] = v
decimal v (d ∷ ds) = decimal (v * 10 + (d - 48)) ds

-- the value of a numeral: 0 where it begins with 0, and 65,535 from there on, so that neither is in any range
abbrev pub value : List ℕ → ℕ
value [] = 0
value (d ∷ ds) = cond (d == 48) 0 (min (decimal 0 (d ∷ ds)) 65535)

abbrev pub Lexeme : Type 0
Lexeme = Result Token TextFault

abbrev pub token : ℕ → Kind → Lexeme
token at k = Ok (record { place = at; kind = k })

-- a run of letters is a word of a rule, or a fault
abbrev pub spelt : ℕ → Option Word → Lexeme
spelt at (Some w) = token at (Kind.Word w)
spelt at None = Err (TextFault.Word at)

-- a run as a token; a byte of no class is a fault
abbrev pub classed : Class → ℕ → List ℕ → Lexeme
classed Digit at bs = token at (Kind.Number (value bs))
classed Letter at bs = spelt at (word bs)
classed Open at bs = token at Kind.Open
classed Close at bs = token at Kind.Close
classed Blank at bs = Err (TextFault.Byte at)
classed Other at bs = Err (TextFault.Byte at)

abbrev pub lexeme : Run → Lexeme
lexeme r = classed r.class r.place r.bytes

-- the tokens and faults of a text whose first byte is at a place, in their order
abbrev pub lexemes : ℕ → List ℕ → List Lexeme
lexemes at bs = map lexeme (runs at bs)
