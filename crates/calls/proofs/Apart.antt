-- Where other groups pass on two shelves, one call tells them apart: that for all groups, into a buffer that holds them.
use Rattle.std.proofs.Common.{◌≡◌, ℕ, suc, ◌+◌, ◌*◌, ◌/◌, ◌^◌, ◌<◌, ◌≤◌, Bool, true, false, ◌&&◌, ltb, leb, List, [], ◌∷◌, ◌++◌, length, take, replicate, is_some, Some, None, Ok, Err, Option, sym, refl, ap, ◌∙◌, subst, arith}
use native.Mathlib.Nat.{mul-div_cancel_left}
use lib.ListN.{length-replicate}
use Rattle.std.specs.List.{AllByRecursion}
use Rattle.std.proofs.lemmas.List.{take_all, take_at}
use Rattle.std.proofs.lemmas.Bool.{lt-ltb, le-leb, and_from, both_ways, false≢true}
use Rattle.families.specs.Trees as tree
use Rattle.families.specs.Trees.{Tree}
use Rattle.families.specs.Good.{Good}
use Rattle.families.proofs.Listing.{each_all, lists_group}
use Rattle.families.proofs.Kept.{kept_all}
use Rattle.families.proofs.Laws.{groups_once}
use Rattle.diagrams.specs.Listing.{page, page_bytes}
use Rattle.calls.specs.declared.answer.Answer.TheVariants.{Groups}
use Rattle.calls.specs.declared.faults.Fault.{Fault}
use Rattle.calls.specs.declared.faults.Fault.TheVariants.{Shelf, Empty, Buffer}
use Rattle.calls.specs.Shelves.{Sizes, Shelves, Stand, SamePassing, on_shelf, tree_of, tree_on}
use Rattle.calls.specs.Acts.{groups}
use Rattle.calls.specs.Sheets.{over}
use Rattle.calls.specs.Denials.{denial}
use Rattle.calls.specs.Answers.{listed}
use Rattle.calls.specs.Events.{Event, Happens}
use Rattle.calls.specs.Lives.{at_end, then_on, fixed_part, AnswerAlike}
use Rattle.calls.proofs.Bytes.{pages_once, length_page}
use Rattle.calls.proofs.SheetBytes.{Word, groups_words}
use Rattle.calls.proofs.LetIn.{questions, none_no, yes_unless, sources_held}
use Rattle.calls.proofs.SamePassing.{tree_same}

empty_tree : (s : Stand) → is_some s ≡ false → tree_of s ≡ tree.none
empty_tree None e = refl
empty_tree (Some t) e = absurd (false≢true (sym e))

-- every group is below 2 ^ 48, so a page with room for them all has them all
page_whole : (f : Tree) → Good 1 f → (room : ℕ) → length (tree.groups f) ≤ room → page (2 ^ 48) room (tree.groups f) ≡ tree.groups f
page_whole f k room l =
    ap (take room) (kept_all (λ g. ltb g (2 ^ 48)) (tree.groups f) (each_all (λ g. ltb g (2 ^ 48) ≡ true) (tree.groups f) (λ n e. lt-ltb n (2 ^ 48) (lists_group 1 f n k e))))
    ∙ take_all room (tree.groups f) l

-- two pages with as many groups, at the front of equal bytes, are one
fronts_once : (ns ms xs ys : List ℕ) → AllByRecursion Word ns → AllByRecursion Word ms → length ns ≡ length ms → page_bytes ns ++ xs ≡ page_bytes ms ++ ys → ns ≡ ms
fronts_once ns ms xs ys a b l e =
    pages_once ns ms a b (sym (take_at (page_bytes ns) xs (8 * length ns) (length_page ns)) ∙ ap (take (8 * length ns)) e ∙ take_at (page_bytes ms) ys (8 * length ns) (length_page ms ∙ ap (λ n. 8 * n) (sym l)))

-- the call on a shelf that holds something, and on an empty one
abbrev let_in_event : Shelves → ℕ → List ℕ → Event
let_in_event ss i bytes =
    let ns = listed ss i (2 ^ 48) (length bytes) in
    record { call = groups i (2 ^ 48); before = bytes; told = Ok (Groups (length ns)); after = over (page_bytes ns) bytes }

abbrev denied_event : ℕ → List ℕ → Fault → Event
denied_event i bytes f = record { call = groups i (2 ^ 48); before = bytes; told = Err f; after = bytes }

module _ (z : Sizes) (ss : Shelves) (i : ℕ) (bytes : List ℕ) where
  groups_undenied : i < 16 → is_some (on_shelf ss i) ≡ true → 8 ≤ length bytes → denial z ss (groups i (2 ^ 48)) (length bytes) ≡ None
  groups_undenied l e m = none_no (questions z ss (groups i (2 ^ 48)) (length bytes)) (
    yes_unless (ltb i 16 && true) Shelf (and_from (ltb i 16) true (lt-ltb i 16 l) refl),
    (yes_unless (is_some (on_shelf ss i) && true) Empty (and_from (is_some (on_shelf ss i)) true e refl), (refl, (refl, (refl, (yes_unless (leb 8 (length bytes)) Buffer (le-leb 8 (length bytes) m), tt))))),
  )

  groups_told : i < 16 → is_some (on_shelf ss i) ≡ true → 8 ≤ length bytes → Happens z ss (let_in_event ss i bytes) ss
  groups_told l e m = record { no_denial = groups_undenied l e m; says = refl; bytes = refl; shelves = refl }

  groups_denied : is_some (on_shelf ss i) ≡ false → (f : Fault) × Happens z ss (denied_event i bytes f) ss
  groups_denied e = by_denial (denial z ss (groups i (2 ^ 48)) (length bytes)) refl
    where
      by_denial : (o : Option Fault) → denial z ss (groups i (2 ^ 48)) (length bytes) ≡ o → (f : Fault) × Happens z ss (denied_event i bytes f) ss
      by_denial None d = absurd (both_ways (is_some (on_shelf ss i)) e (sources_held z ss (groups i (2 ^ 48)) (length bytes) d).0)
      by_denial (Some f) d = (f, record { first = d; bytes = refl; shelves = refl })

module _ (z : Sizes) (ss tt' : Shelves) (alike : AnswerAlike z ss tt') (i : ℕ) (l : i < 16) (k : Good 1 (tree_on ss i)) (m : Good 1 (tree_on tt' i)) where
  -- the groups of both shelves fit
  abbrev room : ℕ
  room = suc (length (tree.groups (tree_on ss i)) + length (tree.groups (tree_on tt' i)))

  abbrev buffer : List ℕ
  buffer = replicate (8 * room) 0

  buffer_room : length buffer / 8 ≡ room
  buffer_room = ap (λ n. n / 8) (length-replicate {A = ℕ} (8 * room) 0) ∙ mul-div_cancel_left room (omega arith)

  buffer_long : 8 ≤ length buffer
  buffer_long = omega (arith, length-replicate {A = ℕ} (8 * room) 0)

  once : (e f : Event) → e.call ≡ f.call → e.before ≡ f.before → Happens z ss e ss → Happens z tt' f tt' → (fixed_part e.told ≡ fixed_part f.told) × (e.after ≡ f.after)
  once e f c b h j = let r = alike (e ∷ []) (f ∷ []) ss tt' (then_on h at_end) (then_on j at_end) (c, b, tt) in (r.0, r.1)

  -- the call lists all groups of a shelf
  whole_listed : (us : Shelves) → Good 1 (tree_on us i) → length (tree.groups (tree_on us i)) ≤ room → listed us i (2 ^ 48) (length buffer) ≡ tree.groups (tree_on us i)
  whole_listed us g few = ap (λ r. page (2 ^ 48) r (tree.groups (tree_on us i))) buffer_room ∙ page_whole (tree_on us i) g room few

  told_same : (n o : ℕ) → fixed_part (Ok (Groups n)) ≡ fixed_part (Ok (Groups o)) → n ≡ o
  told_same n o e = cc

  told_apart : (f : Fault) (n : ℕ) → fixed_part (Err f) ≡ fixed_part (Ok (Groups n)) → ⊥
  told_apart f n e = let no_way : ◌≡◌ {A = ℕ} 0 1 = cc in omega arith

  alike_tree : tree_on ss i ≡ tree_on tt' i
  alike_tree = by_held (is_some (on_shelf ss i)) (is_some (on_shelf tt' i)) refl refl
    where
      by_held : (a b : Bool) → is_some (on_shelf ss i) ≡ a → is_some (on_shelf tt' i) ≡ b → tree_on ss i ≡ tree_on tt' i
      by_held false false p q = empty_tree (on_shelf ss i) p ∙ sym (empty_tree (on_shelf tt' i) q)
      by_held false true p q =
          let h = groups_denied z ss i buffer p in
          let j = groups_told z tt' i buffer l q buffer_long in
          absurd (told_apart h.0 _ (once (denied_event i buffer h.0) (let_in_event tt' i buffer) refl refl h.1 j).0)
      by_held true false p q =
          let h = groups_told z ss i buffer l p buffer_long in
          let j = groups_denied z tt' i buffer q in
          absurd (told_apart j.0 _ (sym (once (let_in_event ss i buffer) (denied_event i buffer j.0) refl refl h j.1).0))
      by_held true true p q =
          let r = once (let_in_event ss i buffer) (let_in_event tt' i buffer) refl refl (groups_told z ss i buffer l p buffer_long) (groups_told z tt' i buffer l q buffer_long) in
          let e = whole_listed ss k (omega arith) in
          let f = whole_listed tt' m (omega arith) in
          let a = subst (AllByRecursion Word) (sym e) (groups_words (tree_on ss i) k) in
          let b = subst (AllByRecursion Word) (sym f) (groups_words (tree_on tt' i) m) in
          groups_once (tree_on ss i) (tree_on tt' i) k m (sym e ∙ fronts_once (listed ss i (2 ^ 48) (length buffer)) (listed tt' i (2 ^ 48) (length buffer)) _ _ a b (told_same _ _ r.0) r.1 ∙ f)

  pub alike_passing : SamePassing (on_shelf ss i) (on_shelf tt' i)
  alike_passing = tree_same (on_shelf ss i) (on_shelf tt' i) alike_tree
