-- A scanner as the list of the tokens and faults that it has still to tell.
use Rattle.std.specs.Prelude.{List}
use Rattle.rules.specs.declared.scanner.Scanner.{Scanner}
use Rattle.rules.specs.Scanning.{ahead}
use Rattle.rules.specs.Tokens.{Lexeme}

abbrev pub left : Scanner → List Lexeme
left s = ahead s.text.now s.at
