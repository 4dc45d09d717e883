-- Which tokens spell a rule, and when a rule is in order. This is the language of rules, said without any reading of it.
use Rattle.std.specs.Prelude.{◌≡◌, ℕ, suc, ◌<◌, ◌≤◌, true, List, [], ◌∷◌, ◌++◌, Ok, Err}
use Rattle.rules.specs.declared.tokens.Kind.{Kind}
use Rattle.rules.specs.declared.tokens.Kind.TheVariants.{Number, Word, Open, Close}
use Rattle.rules.specs.declared.words.Head.{Head}
use Rattle.rules.specs.declared.words.Word as words
use Rattle.rules.specs.Rules.{Rule, Items, none, item, member, list}
use Rattle.rules.specs.Reading.{fits, in_range}
use Rattle.rules.specs.Tokens.{Lexeme}

-- the word and the figure that begin a list
abbrev pub heading : Head → List Kind
heading Head.All = Word words.Word.All ∷ []
heading Head.Any = Word words.Word.Any ∷ []
heading (Head.Least k) = Word words.Word.Least ∷ (Number k ∷ [])
heading (Head.Grid w) = Word words.Word.Grid ∷ (Number w ∷ [])

mutual
  -- the tokens that spell a rule: its number, or its heading and then its items between brackets
  pub data Spells : Rule → List Kind → Type 0 where
    spells_member : {v : ℕ} → Spells (member v) (Number v ∷ [])
    spells_list : {h : Head} {is : Items} {ks : List Kind} → SpellsItems is ks → Spells (list h is) (heading h ++ (Open ∷ (ks ++ (Close ∷ []))))

  pub data SpellsItems : Items → List Kind → Type 0 where
    spells_none : SpellsItems none []
    spells_item : {r : Rule} {is : Items} {js ks : List Kind} → Spells r js → SpellsItems is ks → SpellsItems (item r is) (js ++ ks)

-- the tokens of a text without a fault of its own
abbrev pub Kinds : List Lexeme → List Kind → Type 0
Kinds [] [] = Unit {0}
Kinds [] (k ∷ ks) = ⊥
Kinds (Err fault ∷ ls) ks = ⊥
Kinds (Ok t ∷ ls) [] = ⊥
Kinds (Ok t ∷ ls) (k ∷ ks) = (t.kind ≡ k) × Kinds ls ks

abbrev pub size : Items → ℕ
size none = 0
size (item r is) = suc (size is)

-- a figure lies from 1 to 64
abbrev pub Figure : Head → Type 0
Figure Head.All = Unit {0}
Figure Head.Any = Unit {0}
Figure (Head.Least k) = in_range 64 k ≡ true
Figure (Head.Grid w) = in_range 64 w ≡ true

abbrev mutual
  -- with d brackets open around it, a rule over members up to n has its numbers in range, 1 to 64 items in each list that fit its head, and at most 16 brackets open together
  pub InOrder : ℕ → ℕ → Rule → Type 0
  InOrder n d (member v) = in_range n v ≡ true
  InOrder n d (list h is) = (d < 16) × Figure h × (1 ≤ size is) × (size is ≤ 64) × (fits h (size is) ≡ true) × AllInOrder n (suc d) is

  pub AllInOrder : ℕ → ℕ → Items → Type 0
  AllInOrder n d none = Unit {0}
  AllInOrder n d (item r is) = InOrder n d r × AllInOrder n d is
