-- The words of a rule.
use Rattle.std.specs.Prelude.{ℕ, cond, List, Some, None, codes, Option}
use Rattle.std.specs.Str.{bytes_eq}
use Rattle.rules.specs.declared.words.Word.{Word}
use Rattle.rules.specs.declared.words.Word.TheVariants.{All, Any, Least, Grid}

-- the word that a run of letters spells, if it is one of the four
abbrev pub word : List ℕ → Option Word
word w =
    cond (bytes_eq w (codes "all")) (Some All)
    (cond (bytes_eq w (codes "any")) (Some Any)
    (cond (bytes_eq w (codes "least")) (Some Least)
    (cond (bytes_eq w (codes "grid")) (Some Grid) None)))
