-- Calls by their arguments as handed over, numbers and texts. The bytes of a buffer stand beside a call.
use Rattle.std.specs.Prelude.{ℕ, List, [], ◌∷◌, Some, None, Option}
use Rattle.calls.specs.declared.call.Call.{Call}
use Rattle.calls.specs.declared.call.Call.TheVariants as call

-- sources come first, then the target; `replace` names a source, a member, the shelf that replaces it and the target
pub data Act : Type 0 where
  set : ℕ → List ℕ → Act
  copy : ℕ → ℕ → Act
  clear : ℕ → Act
  either both : ℕ → ℕ → ℕ → Act
  turn : ℕ → ℕ → Act
  replace : ℕ → ℕ → ℕ → ℕ → Act
  same : ℕ → ℕ → Act
  count verdict : ℕ → Act
  groups : ℕ → ℕ → Act
  tally : Act
  sheet : ℕ → Act

-- the arguments of a call
abbrev pub act : Call → Act
act (call.Set c text) = set c text.now
act (call.Copy a c) = copy a c
act (call.Clear c) = clear c
act (call.Either a b c) = either a b c
act (call.Both a b c) = both a b c
act (call.Turn a c) = turn a c
act (call.Replace a u b c) = replace a u b c
act (call.Same a b) = same a b
act (call.Count a) = count a
act (call.Verdict a) = verdict a
act (call.Groups a n) = groups a n
act call.Tally = tally
act (call.Sheet a) = sheet a

-- what is asked of a call before it is let in
pub record Parts : Type 0 where
  -- every shelf number
  pub named : List ℕ
  -- the shelves that are read
  pub sources : List ℕ
  pub member : Option ℕ
  pub text : Option (List ℕ)

abbrev reading_of : List ℕ → List ℕ → Parts
reading_of named sources = record { named = named; sources = sources; member = None; text = None }

abbrev pub parts : Act → Parts
parts (set c text) = record { named = c ∷ []; sources = []; member = None; text = Some text }
parts (copy a c) = reading_of (a ∷ c ∷ []) (a ∷ [])
parts (clear c) = reading_of (c ∷ []) []
parts (either a b c) = reading_of (a ∷ b ∷ c ∷ []) (a ∷ b ∷ [])
parts (both a b c) = reading_of (a ∷ b ∷ c ∷ []) (a ∷ b ∷ [])
parts (turn a c) = reading_of (a ∷ c ∷ []) (a ∷ [])
parts (replace a u b c) = record { named = a ∷ b ∷ c ∷ []; sources = a ∷ b ∷ []; member = Some u; text = None }
parts (same a b) = reading_of (a ∷ b ∷ []) (a ∷ b ∷ [])
parts (count a) = reading_of (a ∷ []) (a ∷ [])
parts (verdict a) = reading_of (a ∷ []) (a ∷ [])
parts (groups a n) = reading_of (a ∷ []) (a ∷ [])
parts tally = reading_of [] []
parts (sheet a) = reading_of (a ∷ []) (a ∷ [])
