-- What a term memory holds, and how terms are made in it.
use Rattle.std.specs.Prelude.{◌≡◌, ℕ, ◌<◌, Bool, true, false, List, [], ◌∷◌, length}
use Rattle.interning.specs.Distinct.{distinct}
use Rattle.interning.specs.Places.{Stands}
use Rattle.rules.specs.declared.terms.TermKey.{TermKey}
use Rattle.rules.specs.TermKeys.{NamesBelow, tree}
use Rattle.rules.specs.Terms.{Term, subterms, same}
use Rattle.rules.specs.Members.{◌⊆◌}

-- how many different terms a list has
abbrev pub different : List Term → ℕ
different ts = length (distinct same ts)

-- the terms of a memory in order of arrival, how many it can hold, and whether a term has found no place
pub record Held : Type 0 where
  pub terms : List Term
  pub room : ℕ
  pub over : Bool

-- a memory of so many places that holds no term
abbrev pub empty : ℕ → Held
empty room = record { terms = []; room = room; over = false }

-- where no term went without a place, t stands at p
abbrev pub At : Held → ℕ → Term → Type 0
At h p t = h.over ≡ false → Stands h.terms t p

-- the terms of a list stand at the places of another, one by one
abbrev pub AllAt : Held → List ℕ → List Term → Type 0
AllAt h [] [] = Unit {0}
AllAt h [] (t ∷ ts) = ⊥
AllAt h (p ∷ ps) [] = ⊥
AllAt h (p ∷ ps) (t ∷ ts) = At h p t × AllAt h ps ts

-- where no term went without a place, a key stands for t: it names held terms alone, and they make up t
abbrev pub KeyOf : Held → TermKey → Term → Type 0
KeyOf h k t = h.over ≡ false → NamesBelow (length h.terms) k × (tree h.terms k ≡ t)

-- no term is held but those of ts, and where one has found no place these are too many
pub record Within (h : Held) (ts : List Term) : Type 0 where
  pub inside : h.terms ⊆ ts
  pub over : h.over ≡ true → h.room < different ts

-- what stood at a place stands there still, and terms of us alone were added
pub record Adds (h h' : Held) (us : List Term) : Type 0 where
  pub kept : (p : ℕ) (t : Term) → At h p t → At h' p t
  pub only : (ts : List Term) → us ⊆ ts → Within h ts → Within h' ts
  pub room : h'.room ≡ h.room

-- a place was made for t, and nothing but terms in t was added
pub record Makes (h h' : Held) (p : ℕ) (t : Term) : Type 0 where
  pub adds : Adds h h' (subterms t)
  pub at : At h' p t
