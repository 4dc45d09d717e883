-- What an interner is to its callers: the list of its keys in order of arrival. Assumes nothing.
use Rattle.std.specs.Prelude.{◌≡◌, ℕ, List, length}
use Rattle.std.specs.declared.cmp.PartialEq.{Ghosts as Equality}
use Rattle.interning.specs.declared.interner.Interner.{Interner}
use Rattle.interning.specs.declared.key.Key.{Ghosts as Hashing}
use Rattle.interning.specs.Chain.{keys, room}

-- the keys that it holds: a key's place is its index
abbrev pub held : {K : Type 0} {hashing : Hashing K} {equality : Equality K} → Interner K hashing equality → List K
held i = keys i.slots.now i.used

-- how many keys it can hold
abbrev pub capacity : {K : Type 0} {hashing : Hashing K} {equality : Equality K} → Interner K hashing equality → ℕ
capacity i = room (length i.slots.now)

-- i' lies in the slots of i, and can hold as many keys
pub record SameSlots {K : Type 0} {hashing : Hashing K} {equality : Equality K} (i i' : Interner K hashing equality) : Type 0 where
  pub capacity : capacity i' ≡ capacity i
  pub named : i'.slots.ghost_name ≡ i.slots.ghost_name
