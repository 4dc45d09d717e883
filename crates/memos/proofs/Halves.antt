-- What a half of the keeping memo says of its notes. Assumes nothing.
use Rattle.std.proofs.Common.{◌≡◌, ℕ, ◌≤◌, true, false, List, [], length, get_or, set, Ok, Err, Result, sym, refl, ap, ◌∙◌, subst, inl, inr, ⊎_elim, arith}
use Rattle.std.proofs.lemmas.Bool.{both_ways}
use Rattle.std.specs.Result.{IsErr}
use Rattle.interning.specs.declared.interner.Full.{Full}
use Rattle.interning.specs.Interned.{Placed, Appended}
use Rattle.interning.specs.Model.{held}
use Rattle.interning.specs.Places.{Stands, Only}
use Rattle.interning.proofs.Sound.{held_fits}
use Rattle.memos.specs.declared.diagram.Diagram.{Diagram}
use Rattle.memos.specs.declared.question.Question.{Question}
use Rattle.memos.specs.declared.half.Half.{Half}
use Rattle.memos.specs.Notes.{Note}
use Rattle.memos.specs.Noting.{asked, noted}
use Rattle.memos.specs.Halves.{paired, half_notes, Alone, Lacks, Put}
use Rattle.memos.proofs.Noting.{asked_in, noted_old, noted_new}
use Rattle.memos.proofs.Paired.{length_paired, in_paired, paired_set, paired_push, asked_absent}

module _ (h : Half) where
  -- each question held has a place for its answer
  pub half_fits : length (held h.interner) ≤ length h.answers.now
  half_fits = omega (arith, held_fits h.interner, h.roomy)

  -- there are as many notes as questions held
  pub half_length : length (half_notes h) ≡ length (held h.interner)
  half_length = length_paired (held h.interner) h.answers.now half_fits

module _ (q : Question) (a : Diagram) (qs : List Question) (ds : List Diagram) (i : ℕ) (fits : length qs ≤ length ds) where
  -- a question that stands somewhere has a note
  pub asked_stands : Stands qs q i → asked q (paired qs ds) ≡ true
  asked_stands stands = asked_in q (get_or ds i a) (paired qs ds) (in_paired q qs ds i q a stands.within (omega (arith, stands.within)) (stands.here q))

  -- to write at the place that a question has got is to note its answer
  pub put_noted : (cap : ℕ) (qs' : List Question) → cap ≤ length ds → Placed cap qs q i qs' → paired qs' (set ds i a) ≡ noted q a (paired qs ds)
  put_noted cap qs' wide placed = ⊎_elim old new placed.change
    where
      old : qs' ≡ qs → paired qs' (set ds i a) ≡ noted q a (paired qs ds)
      old same =
          let stands : Stands qs q i = subst (λ ks. Stands ks q i) same placed.stands in
          let only : Only qs q i = subst (λ ks. Only ks q i) same placed.only in
          ap (λ ks. paired ks (set ds i a)) same ∙ paired_set q a qs ds i q stands.within (stands.here q) only ∙ sym (noted_old q a (paired qs ds) (asked_stands stands))

      new : Appended cap qs q i qs' → paired qs' (set ds i a) ≡ noted q a (paired qs ds)
      new app =
          (λ j. paired (app.more j) (set ds (app.last j) a)) ∙ paired_push q a qs ds (omega (arith, app.last, app.free)) ∙ sym (noted_new q a (paired qs ds) (asked_absent q qs ds app.absent))

-- what is put into an empty half is its one note, if there is a place
pub put_alone : (room room' : ℕ) (ns ns' : List Note) (q : Question) (a : Diagram) (r : Result (Unit {0}) Full) → ns ≡ [] → room' ≡ room → Put room' ns q a r ns' → Alone room q a ns'
unfolding asked
put_alone room room' ns ns' q a (Ok u) none same put = inl (put ∙ ap (noted q a) none)
put_alone room room' ns ns' q a (Err e) none same put = inr (omega (arith, put.0.full, ap length none), put.1 ∙ none)

-- what is refused is no note
pub put_refused : (room : ℕ) (ns ns' : List Note) (q : Question) (a : Diagram) (r : Result (Unit {0}) Full) → IsErr r → Lacks room ns q → ns' ≡ ns → Put room ns q a r ns'
put_refused room ns ns' q a (Ok u) refused lacks same = absurd (both_ways false refl refused)
put_refused room ns ns' q a (Err e) refused lacks same = (lacks, same)
