-- The bytes of a sheet: they give back its numbers, and so the family.
use Rattle.std.proofs.Common.{◌≡◌, ℕ, ◌^◌, ◌<◌, Bool, true, false, cond, List, ◌++◌, length, take, sym, refl, ap, ◌∙◌, arith, length-append}
use Rattle.std.specs.List.{AllByRecursion}
use Rattle.std.proofs.ByRecursion.{All-append}
use Rattle.std.proofs.lemmas.List.{take_at}
use Rattle.families.specs.Trees.{Tree, groups, is_none}
use Rattle.families.specs.Good.{Good}
use Rattle.families.proofs.Listing.{each_all, lists_group}
use Rattle.families.proofs.Laws.{good_turn, groups_once}
use Rattle.diagrams.proofs.Counts.{groups_few}
use Rattle.calls.specs.Works.{turned, unmet, witnesses}
use Rattle.calls.specs.Sheets.{verdict_number, numbers_in, sheet_numbers, sheet_bytes, sheet_length}
use Rattle.calls.proofs.Bytes.{numbers_again, length_page}

-- a number of 64 bits
abbrev pub Word : ℕ → Type 0
Word n = n < 2 ^ 64

pub groups_words : (f : Tree) → Good 1 f → AllByRecursion Word (groups f)
groups_words f k = each_all Word (groups f) (λ n e. let g = lists_group 1 f n k e in omega arith)

verdict_word : (a b : Bool) → Word (cond a (cond b 1 2) 3)
verdict_word true true = omega arith
verdict_word true false = omega arith
verdict_word false b = omega arith

module _ (f : Tree) (k : Good 1 f) where
  sheet_words : AllByRecursion Word (sheet_numbers (verdict_number f) (groups f) (groups (turned f)))
  sheet_words =
      let p = groups_few f k in
      let q = groups_few (turned f) (good_turn f k) in
      let ps = All-append Word (groups f) (groups (turned f)) (groups_words f k) (groups_words (turned f) (good_turn f k)) in
      (verdict_word (is_none (unmet f)) (is_none (witnesses f)), (omega arith, (omega arith, (omega arith, (omega arith, (omega arith, ps))))))

  pub sheet_read : numbers_in (sheet_bytes f) ≡ sheet_numbers (verdict_number f) (groups f) (groups (turned f))
  sheet_read = numbers_again (sheet_numbers (verdict_number f) (groups f) (groups (turned f))) sheet_words

pub length_sheet : (f : Tree) → length (sheet_bytes f) ≡ sheet_length f
length_sheet f = omega (arith, length_page (sheet_numbers (verdict_number f) (groups f) (groups (turned f))), length-append (groups f) (groups (turned f)))

-- equal numbers have equal first parts
first_part : (v w : ℕ) (ps qs rs us : List ℕ) → sheet_numbers v ps qs ≡ sheet_numbers w rs us → ps ≡ rs
first_part v w ps qs rs us e =
    let long : length ps ≡ length rs = cc in
    let same : ps ++ qs ≡ rs ++ us = cc in
    sym (take_at ps qs (length ps) refl) ∙ ap (take (length ps)) same ∙ take_at rs us (length ps) (sym long)

-- sheets with the same bytes are of one family
pub sheets_once : (f g : Tree) → Good 1 f → Good 1 g → sheet_bytes f ≡ sheet_bytes g → f ≡ g
sheets_once f g k m e =
    groups_once f g k m (first_part (verdict_number f) (verdict_number g) (groups f) (groups (turned f)) (groups g) (groups (turned g)) (sym (sheet_read f k) ∙ ap numbers_in e ∙ sheet_read g m))
