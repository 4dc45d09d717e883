-- What emptying a half for a note leaves. Assumes nothing.
use Rattle.std.proofs.Common.{◌≡◌, ℕ, ◌+◌, ◌<◌, ◌≤◌, Bool, true, false, ◌&&◌, List, [], ◌∷◌, ◌++◌, length, Decides, sym, refl, ap, ◌∙◌, subst, inl, inr, ⊎_elim, append-nil, arith}
use Rattle.std.proofs.lemmas.List.{nil_from_length, length-append}
use Rattle.std.proofs.lemmas.Bool.{both_ways, or_parts, and_parts, and_from}
use Rattle.interning.specs.Distinct.{◌∈◌}
use Rattle.memos.specs.declared.diagram.Diagram.{Diagram}
use Rattle.memos.specs.declared.keeping.Current.{Current}
use Rattle.memos.specs.declared.keeping.Current.TheVariants.{First, Second}
use Rattle.memos.specs.declared.question.Question.{Question}
use Rattle.memos.specs.Arranged.{Arranged, Crowded, Follows, in_use}
use Rattle.memos.specs.Halves.{Alone}
use Rattle.memos.specs.Keeping.{Holding}
use Rattle.memos.specs.Notes.{Note, Noted}
use Rattle.memos.specs.Noting.{asked}
use Rattle.memos.proofs.Joined.{in_left, in_right, in_either}
use Rattle.memos.proofs.Noting.{asked-++, asked_one, noted_new}

-- where a half is emptied though nothing was lost before, every place is taken
all_taken : (c : Current) (w : Bool) (room-f room-s : ℕ) (fs ss : List Note) → Arranged c w room-f fs ss → Crowded c room-f room-s fs ss → Follows c room-s First → w ≡ true → room-f + room-s ≤ length (fs ++ ss)
all_taken First w room-f room-s fs ss arr full next e = omega (arith, length-append fs ss, full, next)
all_taken Second w room-f room-s fs ss arr full next e = omega (arith, length-append fs ss, full, arr.filling e)

-- the second half takes its turn after the first one is full
pub after_first : (c : Current) (w : Bool) (room-f room-s : ℕ) (fs ss : List Note) → Follows c room-s Second → Arranged c w room-f fs ss → Crowded c room-f room-s fs ss → Arranged First w room-f fs ss × (length fs ≡ room-f) × (0 < room-s)
after_first First w room-f room-s fs ss next arr full = (arr, full, next)
after_first Second w room-f room-s fs ss next arr full = absurd next

-- of two places or more, the half in use is not the one that is emptied
second_stays : (c : Current) (room-f room-s : ℕ) (n : Note) (fs ss : List Note) → room-f ≤ room-s + 1 → 2 ≤ room-f + room-s → Follows c room-s First → n ∈ in_use c fs ss → n ∈ ss
second_stays First room-f room-s n fs ss even two next m = absurd (omega (arith, next))
second_stays Second room-f room-s n fs ss even two next m = m

first_stays : (c : Current) (room-s : ℕ) (n : Note) (fs ss : List Note) → Follows c room-s Second → n ∈ in_use c fs ss → n ∈ fs
first_stays First room-s n fs ss next m = m
first_stays Second room-s n fs ss next m = absurd next

-- a half with one note is asked for its question alone
asked_alone : (room : ℕ) (q : Question) (a : Diagram) (ns : List Note) → Alone room q a ns → (p : Question) → asked p ns ≡ true → p ≡ q
unfolding asked
asked_alone room q a ns (inl one) p e = asked_one p q a (ap (asked p) (sym one) ∙ e)
asked_alone room q a ns (inr none) p e = absurd (both_ways false refl (ap (asked p) (sym none.1) ∙ e))

in_alone : (room : ℕ) (q : Question) (a : Diagram) (ns : List Note) → Alone room q a ns → (n : Note) → n ∈ ns → n ≡ (q, a)
in_alone room q a ns (inl one) n m = ⊎_elim (λ e. e) (λ z. absurd z) (subst (λ xs. n ∈ xs) one m)
in_alone room q a ns (inr none) n m = absurd (subst (λ xs. n ∈ xs) none.1 m)

alone_in : (room : ℕ) (q : Question) (a : Diagram) (ns : List Note) → Alone room q a ns → 0 < room → (q, a) ∈ ns
alone_in room q a ns (inl one) some = subst (λ xs. (q, a) ∈ xs) (sym one) (inl refl)
alone_in room q a ns (inr none) some = absurd (omega (arith, none.0))

module _ (q : Question) (a : Diagram) (c : Current) (w : Bool) (room-f room-s : ℕ) (fs ss : List Note) (arr : Arranged c w room-f fs ss) (full : Crowded c room-f room-s fs ss) (none : asked q (fs ++ ss) ≡ false) where
  neither : (asked q fs ≡ false) × (asked q ss ≡ false)
  neither = or_parts (asked q fs) (asked q ss) (sym (asked-++ q fs ss) ∙ none)

  module _ (fs' : List Note) (alone : Alone room-f q a fs') where
    pub first_arranged : (room : ℕ) → Arranged First false room fs' ss
    first_arranged room = record {
      apart = λ p e h. both_ways (asked q ss) neither.1 (subst (λ x. asked x ss ≡ true) (asked_alone room-f q a fs' alone p e) h);
      filling = λ e. absurd (both_ways false refl e);
    }

    pub first_sound : Noted (w ≡ true) (false ≡ true) (fs ++ ss) (fs' ++ ss) q a
    first_sound = record {
      only = λ n m. ⊎_elim (λ l. inl (in_alone room-f q a fs' alone n l)) (λ r. inr (in_right n fs ss r)) (in_either n fs' ss m);
      already = λ k. absurd (both_ways false refl k);
      new = λ k. absurd (both_ways false refl k);
      others = λ k. absurd (both_ways false refl k);
    }

    pub first_holding : room-s ≤ room-f → room-f ≤ room-s + 1 → Follows c room-s First → Holding w false (room-f + room-s) (in_use c fs ss) (fs ++ ss) (fs' ++ ss) q a
    first_holding larger even next = record {
      new = λ some. in_left (q, a) fs' ss (alone_in room-f q a fs' alone (omega arith));
      lasting = λ e free. absurd (omega (arith, all_taken c w room-f room-s fs ss arr full next e));
      spared = λ two p b ne m. in_right (p, b) fs' ss (second_stays c room-f room-s (p, b) fs ss even two next m);
    }

module _ (q : Question) (a : Diagram) (w empty : Bool) (room-f room-s : ℕ) (fs ss ss' : List Note) (c : Current) (next : Follows c room-s Second) (arr : Arranged First w room-f fs ss) (none : asked q (fs ++ ss) ≡ false) (tells : Decides empty (ss ≡ [])) (some : 0 < room-s) (alone : Alone room-s q a ss') where
  one : ss' ≡ (q, a) ∷ []
  one = ⊎_elim (λ e. e) (λ z. absurd (omega (arith, z.0))) alone

  pub second_arranged : (room : ℕ) → length fs ≡ room → Arranged Second (w && empty) room fs ss'
  second_arranged room full = record {
    apart = λ p e h. both_ways (asked q fs) (or_parts (asked q fs) (asked q ss) (sym (asked-++ q fs ss) ∙ none)).0 (subst (λ x. asked x fs ≡ true) (asked_alone room-s q a ss' alone p h) e);
    filling = λ e. full;
  }

  pub second_sound : Noted (w ≡ true) (w && empty ≡ true) (fs ++ ss) (fs ++ ss') q a
  second_sound = record {
    only = λ n m. ⊎_elim (λ l. inr (in_left n fs ss l)) (λ r. inl (in_alone room-s q a ss' alone n r)) (in_either n fs ss' m);
    already = λ k. (and_parts w empty k).0;
    new = λ k. in_right (q, a) fs ss' (alone_in room-s q a ss' alone some);
    others = λ k p b ne m.
        ⊎_elim (λ l. in_left (p, b) fs ss' l) (λ r. absurd (subst (λ xs. (p, b) ∈ xs) (tells.0 (and_parts w empty k).1) r)) (in_either (p, b) fs ss m);
  }

  pub second_holding : (room : ℕ) → Holding w (w && empty) room (in_use c fs ss) (fs ++ ss) (fs ++ ss') q a
  second_holding room = record {
    new = λ k. in_right (q, a) fs ss' (alone_in room-s q a ss' alone some);
    lasting = λ e free.
        let nil : ss ≡ [] = nil_from_length ss (arr.filling e) in
        let back : fs ++ ss ≡ fs = ap (λ xs. fs ++ xs) nil ∙ append-nil fs in (
          and_from w empty e (tells.1 nil),
          (λ i. sym back i ++ one i) ∙ sym (noted_new q a (fs ++ ss) none),
        );
    spared = λ two p b ne m. in_left (p, b) fs ss' (first_stays c room-s (p, b) fs ss next m);
  }
