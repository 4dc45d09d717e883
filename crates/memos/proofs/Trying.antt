-- The keeping memo over its two halves. Assumes nothing.
use Rattle.std.proofs.Common.{◌≡◌, ℕ, ◌+◌, Bool, true, false, Ok, Err, Result, List, ◌++◌, length, Some, None, Option, sym, refl, ap, ◌∙◌, subst, inl, ⊎_elim}
use Rattle.std.proofs.lemmas.Bool.{or_from}
use Rattle.memos.specs.declared.diagram.Diagram.{Diagram}
use Rattle.memos.specs.declared.keeping.Current.{Current}
use Rattle.memos.specs.declared.keeping.Current.TheVariants.{First, Second}
use Rattle.memos.specs.declared.keeping.KeepingMemo.{KeepingMemo}
use Rattle.memos.specs.declared.question.Question.{Question}
use Rattle.interning.specs.declared.interner.Full.{Full}
use Rattle.interning.specs.Distinct.{◌∈◌}
use Rattle.memos.specs.Arranged.{Arranged, Crowded, in_use}
use Rattle.memos.specs.Halves.{Put, Shared, half_notes, half_room}
use Rattle.memos.specs.Keeping.{Stuck, Taken, Same, Tried, memo_notes}
use Rattle.memos.specs.Notes.{Note, Noted, Told}
use Rattle.memos.specs.Noting.{asked, answered}
use Rattle.memos.proofs.Arranged.{Step, first_step, second_step, arranged_out}
use Rattle.memos.proofs.Joined.{in_left, in_right, in_either}
use Rattle.memos.proofs.Noting.{asked-++, answered_unasked}

-- what was put into a half after the other one was found to lack the question
pub shared_put : (q : Question) (a : Diagram) (r : Result (Unit {0}) Full) (room : ℕ) (cs os cs' os' : List Note) → asked q os ≡ false → os' ≡ answered q a os → Put room cs q a r cs' → Shared room cs os q a r cs' os'
shared_put q a (Ok u) room cs os cs' os' none same put = inl (none, record { put = put; stays = same ∙ answered_unasked q a os none })
shared_put q a (Err x) room cs os cs' os' none same put = (put.0, none, put.1, same ∙ answered_unasked q a os none)

-- an answer of two halves, the second of which is asked where the first has none
pub told_first : (keeps : Type 0) (fs ss : List Note) (q : Question) (a : Diagram) → Told (Unit {0}) fs q (Some a) → Told keeps (fs ++ ss) q (Some a)
told_first keeps fs ss q a told = in_left (q, a) fs ss told

pub told_second : (keeps : Type 0) (fs ss : List Note) (q : Question) (r : Option Diagram) → Told (Unit {0}) fs q None → Told (Unit {0}) ss q r → Told keeps (fs ++ ss) q r
told_second keeps fs ss q (Some a) none told = in_right (q, a) fs ss told
told_second keeps fs ss q None none told = λ k a m. ⊎_elim (λ l. none tt a l) (λ r. told tt a r) (in_either (q, a) fs ss m)

arranged_same : (c : Current) (w : Bool) (room room' : ℕ) (fs ss fs' ss' : List Note) → room' ≡ room → fs' ≡ fs → ss' ≡ ss → Arranged c w room fs ss → Arranged c w room' fs' ss'
arranged_same c w room room' fs ss fs' ss' e f s =
    let path : Arranged c w room fs ss ≡ Arranged c w room' fs' ss' = λ i. Arranged c w (sym e i) (sym f i) (sym s i) in
    subst (λ (T : Type 0). T) path

module _ (q : Question) (a : Diagram) (c : Current) (w : Bool) (room room' : ℕ) (fs ss fs' ss' : List Note) (same : room' ≡ room) where
  -- how the halves are arranged after a note that was tried
  pub arranged_first : (r : Result (Unit {0}) Full) → c ≡ First → Arranged c w room fs ss → Shared room fs ss q a r fs' ss' → Arranged c w room' fs' ss'
  arranged_first (Ok u) is arr sh =
      let step = first_step q a fs ss fs' ss' w room 0 (subst (λ x. Arranged x w room fs ss) is arr) sh in
      arranged_same c w room room' fs' ss' fs' ss' same refl refl (subst (λ x. Arranged x w room fs' ss') (sym is) step.arranged)
  arranged_first (Err x) is arr sh = arranged_same c w room room' fs ss fs' ss' same sh.2 sh.3 arr

  pub arranged_second : (room-s : ℕ) (r : Result (Unit {0}) Full) → c ≡ Second → Arranged c w room fs ss → Shared room-s ss fs q a r ss' fs' → Arranged c w room' fs' ss'
  arranged_second room-s (Ok u) is arr sh =
      let step = second_step q a fs ss fs' ss' w room room-s (subst (λ x. Arranged x w room fs ss) is arr) sh in
      arranged_same c w room room' fs' ss' fs' ss' same refl refl (subst (λ x. Arranged x w room fs' ss') (sym is) step.arranged)
  arranged_second room-s (Err x) is arr sh = arranged_same c w room room' fs ss fs' ss' same sh.3 sh.2 arr

used_in : (c : Current) (n : Note) (fs ss : List Note) → n ∈ in_use c fs ss → n ∈ (fs ++ ss)
used_in First n fs ss = in_left n fs ss
used_in Second n fs ss = in_right n fs ss

module _ (q : Question) (a : Diagram) (m m' : KeepingMemo) (current : m'.current ≡ m.current) (whole : m'.whole ≡ m.whole) (room-f : half_room m'.first ≡ half_room m.first) (room-s : half_room m'.second ≡ half_room m.second) where
  taken : (c : Current) → Step q a (half_notes m.first) (half_notes m.second) (half_notes m'.first) (half_notes m'.second) c m.whole (half_room m.first) → Taken m m' q a
  taken c step = record {
    true_to = subst (λ w. Noted (m.whole ≡ true) (w ≡ true) (memo_notes m) (memo_notes m') q a) (sym whole) step.sound;
    holding = record {
      new = λ some. step.new;
      lasting = λ e free. (whole ∙ e, step.joined e);
      spared = λ two p b ne n. step.others p b ne (used_in m.current (p, b) (half_notes m.first) (half_notes m.second) n);
    };
    room = λ i. room-f i + room-s i;
  }

  stuck : half_notes m'.first ≡ half_notes m.first → half_notes m'.second ≡ half_notes m.second → asked q (half_notes m.first) ≡ false → asked q (half_notes m.second) ≡ false
      → Crowded m'.current (half_room m'.first) (half_room m'.second) (half_notes m'.first) (half_notes m'.second) → Stuck m' q × Same m m'
  stuck f s none none' full =
      let notes : memo_notes m' ≡ memo_notes m = λ i. f i ++ s i in (
        record { crowded = full; unasked = ap (asked q) notes ∙ asked-++ q (half_notes m.first) (half_notes m.second) ∙ or_from _ _ none none' },
        record { notes = notes; recent = λ i. in_use (current i) (f i) (s i); whole = whole; room = λ i. room-f i + room-s i },
      )

  pub tried_first : (r : Result (Unit {0}) Full) → m.current ≡ First → m'.current ≡ First → Shared (half_room m.first) (half_notes m.first) (half_notes m.second) q a r (half_notes m'.first) (half_notes m'.second) → Tried m q a r m'
  tried_first (Ok u) is is' sh =
      taken First (first_step q a _ _ _ _ m.whole (half_room m.first) 0 (subst (λ c. Arranged c m.whole (half_room m.first) (half_notes m.first) (half_notes m.second)) is (arranged_out m.current m.arranged)) sh)
  tried_first (Err x) is is' sh =
      stuck sh.2 sh.3 sh.0.unasked sh.1
      (subst (λ c. Crowded c (half_room m'.first) (half_room m'.second) (half_notes m'.first) (half_notes m'.second)) (sym is') (ap length sh.2 ∙ sh.0.full ∙ sym room-f))

  pub tried_second : (r : Result (Unit {0}) Full) → m.current ≡ Second → m'.current ≡ Second → Shared (half_room m.second) (half_notes m.second) (half_notes m.first) q a r (half_notes m'.second) (half_notes m'.first) → Tried m q a r m'
  tried_second (Ok u) is is' sh =
      taken Second (second_step q a _ _ _ _ m.whole (half_room m.first) (half_room m.second) (subst (λ c. Arranged c m.whole (half_room m.first) (half_notes m.first) (half_notes m.second)) is (arranged_out m.current m.arranged)) sh)
  tried_second (Err x) is is' sh =
      stuck sh.3 sh.2 sh.1 sh.0.unasked
      (subst (λ c. Crowded c (half_room m'.first) (half_room m'.second) (half_notes m'.first) (half_notes m'.second)) (sym is') (ap length sh.2 ∙ sh.0.full ∙ sym room-s))
