-- The verdict on a family, and the bytes of its sheet.
use Rattle.std.specs.Prelude.{◌≡◌, ℕ, ◌+◌, ◌*◌, ◌^◌, true, cond, List, [], ◌∷◌, ◌++◌, length, drop}
use Rattle.families.specs.Sets.{Meet}
use Rattle.families.specs.Groups.{holds}
use Rattle.families.specs.Trees.{Tree, groups, lists, is_none}
use Rattle.diagrams.specs.Listing.{page_bytes}
use Rattle.calls.specs.declared.answer.Verdict.{Verdict}
use Rattle.calls.specs.declared.answer.Verdict.TheVariants.{Nondominated, Dominated, Clash}
use Rattle.calls.specs.Works.{turned, unmet, witnesses}

-- 3, clash; 2, dominated; 1, nondominated
abbrev pub verdict_number : Tree → ℕ
verdict_number f = cond (is_none (unmet f)) (cond (is_none (witnesses f)) 1 2) 3

-- any two groups of the family that share no member
pub record Apart (f : Tree) (m k : ℕ) : Type 0 where
  pub one : lists f m ≡ true
  pub other : lists f k ≡ true
  pub unmet : Meet (holds m) (holds k) → ⊥

-- the first of a list, and 0 where there is none
abbrev pub first : List ℕ → ℕ
first [] = 0
first (n ∷ ns) = n

-- the verdict, with the first witness, or with any clashing pair
abbrev pub Judged : Tree → Verdict → Type 0
Judged f Nondominated = verdict_number f ≡ 1
Judged f (Dominated w) = (verdict_number f ≡ 2) × (w ≡ first (groups (witnesses f)))
Judged f (Clash m k) = (verdict_number f ≡ 3) × Apart f m k

-- the numbers of a sheet with the verdict v: the counts, the offsets and the length, then the passing and the stopping groups
abbrev pub sheet_numbers : ℕ → List ℕ → List ℕ → List ℕ
sheet_numbers v ps qs = v ∷ length ps ∷ length qs ∷ 48 ∷ (48 + 8 * length ps) ∷ (48 + 8 * (length ps + length qs)) ∷ (ps ++ qs)

-- a sheet: each number as eight bytes, the most significant first
abbrev pub sheet_bytes : Tree → List ℕ
sheet_bytes f = page_bytes (sheet_numbers (verdict_number f) (groups f) (groups (turned f)))

abbrev pub sheet_length : Tree → ℕ
sheet_length f = 48 + 8 * (length (groups f) + length (groups (turned f)))

-- bytes written over the first of others
abbrev pub over : List ℕ → List ℕ → List ℕ
over written bytes = written ++ drop (length written) bytes

-- eight bytes as a number, the most significant first
abbrev pub number_in : ℕ → ℕ → ℕ → ℕ → ℕ → ℕ → ℕ → ℕ → ℕ
number_in a b c d e f g h = a * 2 ^ 56 + b * 2 ^ 48 + c * 2 ^ 40 + d * 2 ^ 32 + e * 2 ^ 24 + f * 2 ^ 16 + g * 256 + h

-- the numbers in bytes, read eight at a time
abbrev pub numbers_in : List ℕ → List ℕ
numbers_in [] = []
numbers_in (a ∷ []) = []
numbers_in (a ∷ b ∷ []) = []
numbers_in (a ∷ b ∷ c ∷ []) = []
numbers_in (a ∷ b ∷ c ∷ d ∷ []) = []
numbers_in (a ∷ b ∷ c ∷ d ∷ e ∷ []) = []
numbers_in (a ∷ b ∷ c ∷ d ∷ e ∷ f ∷ []) = []
numbers_in (a ∷ b ∷ c ∷ d ∷ e ∷ f ∷ g ∷ []) = []
numbers_in (a ∷ b ∷ c ∷ d ∷ e ∷ f ∷ g ∷ h ∷ bytes) = number_in a b c d e f g h ∷ numbers_in bytes
