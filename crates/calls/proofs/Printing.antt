-- What a sheet shows of the shelf that it was written of.
use Rattle.std.proofs.Common.{◌≡◌, ℕ, ◌↔◌, List, length, take, drop, sym, refl, ap, ◌∙◌, subst}
use Rattle.std.proofs.lemmas.List.{take_at}
use Rattle.families.specs.Groups.{holds}
use Rattle.families.specs.Trees.{groups}
use Rattle.families.proofs.Smallest.{smallest_lists, listed_falling}
use Rattle.families.proofs.Stopping.{stopping_passes}
use Rattle.families.proofs.Laws.{good_turn}
use Rattle.calls.specs.declared.answer.Answer.TheVariants.{Sheet}
use Rattle.calls.specs.Shelves.{Stand, Passes, Stops, SamePassing, on_shelf, tree_of}
use Rattle.calls.specs.Acts.{sheet}
use Rattle.calls.specs.Works.{turned}
use Rattle.calls.specs.Sheets.{verdict_number, numbers_in, sheet_bytes}
use Rattle.calls.specs.Events.{LetIn}
use Rattle.calls.specs.Law.{Prints, Shows}
use Rattle.calls.proofs.Stands.{Stands, passes_tree, stops_tree}
use Rattle.calls.proofs.SamePassing.{same_tree, tree_same}
use Rattle.calls.proofs.Sources.{sources_stand}
use Rattle.calls.proofs.Stocking.{life_allowed, life_stocked}
use Rattle.calls.proofs.Denying.{answer_let_in}
use Rattle.calls.proofs.Judging.{number_best}
use Rattle.calls.proofs.SheetBytes.{length_sheet, sheet_read, sheets_once}

-- the sheet of a family over n members
pub record SheetOf (n : ℕ) (s : Stand) (bytes : List ℕ) : Type 0 where
  pub stands : Stands n s
  pub bytes_are : bytes ≡ sheet_bytes (tree_of s)

pub prints_sheet : (s : Stand) (bytes : List ℕ) (p : Prints s bytes) → SheetOf p.sizes.members s bytes
prints_sheet s bytes p =
    let z = p.sizes in
    let ss = p.shelves in
    let e = p.event in
    let i = p.shelf in
    let k = subst (λ c. LetIn z ss c e.before (Sheet p.length_told) e.after p.afterwards) p.called (answer_let_in z ss p.afterwards e p.happens (Sheet p.length_told) p.told) in
    let f = (sources_stand z ss (sheet i) (length e.before) (life_stocked p.life) k.no_denial).0 in
    let t = tree_of (on_shelf ss i) in
    let told : p.length_told ≡ length (sheet_bytes t) = sheet_told p.length_told _ k.says ∙ sym (length_sheet t) in
    subst (λ x. SheetOf z.members x bytes) p.stand (record {
      stands = f;
      bytes_are = sym p.written ∙ ap (take p.length_told) k.bytes ∙ take_at (sheet_bytes t) (drop (length (sheet_bytes t)) e.before) p.length_told (sym told);
    })
  where
    sheet_told : (m n : ℕ) → Sheet m ≡ Sheet n → m ≡ n
    sheet_told m n q = cc

pub sheet_shows : (s : Stand) (bytes : List ℕ) (p : Prints s bytes) → Shows p.sizes.members s bytes
sheet_shows s bytes p =
    let k = prints_sheet s bytes p in
    let f = tree_of s in
    let good = k.stands.proper.good in
    let allowed = life_allowed p.life in
    record {
      verdict_told = verdict_number f;
      verdict_told_is = refl;
      best = number_best p.sizes.members allowed.some_member allowed.few_members s k.stands;
      passing = groups f;
      stopping = groups (turned f);
      read = ap numbers_in k.bytes_are ∙ sheet_read f good;
      passing_falls = listed_falling f good;
      passing_all = smallest_lists f good (Passes s) (λ n g. ((λ h. sym (passes_tree s (holds n)) ∙ h), λ h. passes_tree s (holds n) ∙ h));
      stopping_falls = listed_falling (turned f) (good_turn f good);
      stopping_all = smallest_lists (turned f) (good_turn f good) (Stops s) (λ n g. ((λ h. (stopping_passes f good n).0 ((stops_tree s n).0 h)), λ h. (stops_tree s n).1 ((stopping_passes f good n).1 h)));
    }

pub sheets_same : (s t : Stand) (bytes others : List ℕ) → Prints s bytes → Prints t others → (bytes ≡ others) ↔ SamePassing s t
sheets_same s t bytes others p q =
    let k = prints_sheet s bytes p in
    let m = prints_sheet t others q in (
      λ e. tree_same s t (sheets_once (tree_of s) (tree_of t) k.stands.proper.good m.stands.proper.good (sym k.bytes_are ∙ e ∙ m.bytes_are)),
      λ h. k.bytes_are ∙ ap sheet_bytes (same_tree s t k.stands.proper.good m.stands.proper.good h) ∙ sym m.bytes_are,
    )
