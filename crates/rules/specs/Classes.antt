-- The class of each byte of a rule's text.
use Rattle.std.specs.Prelude.{ℕ, Bool, cond, ◌&&◌, ◌||◌, ◌==◌, nat_le}
use Rattle.rules.specs.declared.classes.Class.{Class}
use Rattle.rules.specs.declared.classes.Class.TheVariants.{Digit, Letter, Open, Close, Blank, Other}

-- b lies from a to z
abbrev pub between : ℕ → ℕ → ℕ → Bool
between a z b = nat_le a b && nat_le b z

-- a tab, a line feed, a carriage return or a space
abbrev pub blank : ℕ → Bool
blank b = b == 9 || (b == 10 || (b == 13 || b == 32))

-- the digits 0 to 9, the letters a to z, the two brackets, the blanks, and every other byte
abbrev pub class : ℕ → Class
class b = cond (between 48 57 b) Digit (cond (between 97 122 b) Letter (cond (b == 40) Open (cond (b == 41) Close (cond (blank b) Blank Other))))
