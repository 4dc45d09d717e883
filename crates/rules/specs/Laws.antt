-- The laws of rules: what they expand to passes the same groups, and a text is read as the rule that it spells.
use Rattle.std.specs.Prelude.{◌≡◌, ℕ, ◌≤◌, List, length, Ok}
use Rattle.rules.specs.declared.tokens.Kind.{Kind}
use Rattle.rules.specs.Rules.{Rule, Group, passes}
use Rattle.rules.specs.Terms.{term_passes, expand}
use Rattle.rules.specs.Tokens.{lexemes}
use Rattle.rules.specs.Reading.{reading}
use Rattle.rules.specs.Spelling.{Kinds, Spells, InOrder}

-- the term of a rule passes the groups that the rule passes
abbrev pub ExpansionPasses : Type 0
ExpansionPasses = (n d : ℕ) (r : Rule) (g : Group) → InOrder n d r → term_passes (expand r) g ≡ passes r g

-- a text is let in as a rule over members up to n: it is short enough, its tokens spell the rule, and the rule is in order
pub record LetIn (n : ℕ) (text : List ℕ) (r : Rule) : Type 0 where
  pub short : length text ≤ 4096
  pub kinds : List Kind
  pub tokens : Kinds (lexemes 0 text) kinds
  pub spelt : Spells r kinds
  pub in_order : InOrder n 0 r

-- the reading answers a rule where the text is let in as that rule, and nowhere else
abbrev pub ReadingSpells : Type 0
ReadingSpells = (n : ℕ) (text : List ℕ) (r : Rule) → (reading n text ≡ Ok r → LetIn n text r) × (LetIn n text r → reading n text ≡ Ok r)
