-- Each way of a step of the reader is the way of the reading's step.
use Rattle.std.proofs.Common.{◌≡◌, ℕ, ◌<◌, ◌≤◌, Bool, true, false, cond, eqb, leb, List, [], ◌∷◌, length, Some, None, Ok, Err, Result, sym, refl, ap, ◌∙◌, subst, arith}
use Rattle.std.proofs.lemmas.Bool.{cond-true, cond-false, le-leb, lt-leb}
use Rattle.rules.specs.declared.faults.RuleFault.{RuleFault}
use Rattle.rules.specs.declared.faults.RuleFault.TheVariants.{Depth, Shape}
use Rattle.rules.specs.declared.nest.OpenList.{OpenList}
use Rattle.rules.specs.declared.reader.Wants.{Wants}
use Rattle.rules.specs.declared.reader.Wants.TheVariants.{Item, Bracket as WantsBracket}
use Rattle.rules.specs.declared.tokens.Kind.{Kind}
use Rattle.rules.specs.declared.tokens.Kind.TheVariants.{Number, Open}
use Rattle.rules.specs.declared.words.Head.{Head}
use Rattle.rules.specs.declared.words.Word.{Word}
use Rattle.rules.specs.Building.{Held, AllAt, Makes}
use Rattle.rules.specs.Following.{Follows, Steps, Joined, AtItem, after, frames_terms}
use Rattle.rules.specs.Levels.{crowded as crowded_levels}
use Rattle.rules.specs.Reading.{Frame, State, wants_bracket, crowded, after_word, close, at_item, at_bracket, in_range, fits}
use Rattle.rules.specs.Rules.{Rule}
use Rattle.rules.specs.Terms.{Term, expand_list, member, subterms}
use Rattle.interning.proofs.Members.{in_right}
use Rattle.rules.proofs.Followed.{levels_length, level_length, crowded_same, follows_open, follows_made, follows_closed}

pub steps_err : (n : ℕ) (h : Held) (f : RuleFault) (ls : List OpenList) (out : Result State RuleFault) → out ≡ Err f → Steps n h (Err f) ls out
steps_err n h f ls out e = subst (Steps n h (Err f) ls) (sym e) refl

pub steps_ok : (n : ℕ) (h : Held) (w : Wants) (ls : List OpenList) (s : State) (out : Result State RuleFault) → out ≡ Ok s → Follows n h w ls s → Steps n h (Ok w) ls out
steps_ok n h w ls s out e f = subst (Steps n h (Ok w) ls) (sym e) f

module _ (n : ℕ) (h : Held) (x : Head) (ls : List OpenList) (fs : List Frame) (at : ℕ) (k : Kind) (is : k ≡ Open) (f : Follows n h (WantsBracket x) ls (record { stage = wants_bracket x; frames = fs })) where
  pub bracket_deep : 16 ≤ length ls → Steps n h (Err (Depth at)) ls (at_bracket at k x fs)
  bracket_deep deep =
      steps_err n h (Depth at) ls _ (ap (λ j. at_bracket at j x fs) is ∙ cond-true (leb 16 (length fs)) _ _ (le-leb 16 (length fs) (omega (arith, levels_length h ls fs f.stand))))

  pub bracket_opened : (ms : List OpenList) → length ls < 16 → ms ≡ record { head = x; places = record { items = [] } } ∷ ls → Steps n h (Ok Item) ms (at_bracket at k x fs)
  bracket_opened ms room more =
      let room' : length fs < 16 = omega (arith, levels_length h ls fs f.stand) in
      steps_ok n h Item ms _ _ (ap (λ j. at_bracket at j x fs) is ∙ cond-false (leb 16 (length fs)) _ _ (lt-leb 16 (length fs) room'))
      (subst (λ l. AtItem n h l (record { head = x; items = [] } ∷ fs)) (sym more) (follows_open n h x ls fs room' f))

-- what is known of the innermost list
module _ (n : ℕ) (h : Held) (l : OpenList) (ls : List OpenList) where
  pub outer_room : (fs : List Frame) → AtItem n h (l ∷ ls) fs → crowded_levels ls ≡ false
  outer_room [] at = absurd at.stand
  outer_room (f ∷ fs) at = crowded_same h ls fs at.stand.1 ∙ at.frames_good.4

  some_items : (f : Frame) (fs : List Frame) → AtItem n h (l ∷ ls) (f ∷ fs) → eqb (length l.places.items) 0 ≡ false → eqb (length f.items) 0 ≡ false
  some_items f fs at some = ap (λ m. eqb m 0) (sym (level_length h l f at.stand.0)) ∙ some

  fit_same : (f : Frame) (fs : List Frame) → AtItem n h (l ∷ ls) (f ∷ fs) → fits f.head (length f.items) ≡ fits l.head (length l.places.items)
  fit_same f fs at = λ i. fits (sym at.stand.0.head i) (sym (level_length h l f at.stand.0) i)

  pub closed_unfit : (p : ℕ) (fs : List Frame) → AtItem n h (l ∷ ls) fs → eqb (length l.places.items) 0 ≡ false → fits l.head (length l.places.items) ≡ false → Steps n h (Err (Shape p)) ls (close p fs)
  closed_unfit p [] at some unfit = absurd at.stand
  closed_unfit p (f ∷ fs) at some unfit =
      steps_err n h (Shape p) ls _ (cond-false (eqb (length f.items) 0) _ _ (some_items f fs at some) ∙ cond-false (fits f.head (length f.items)) _ _ (fit_same f fs at ∙ unfit))

  pub closed_whole : (h' : Held) (p : ℕ) (fs : List Frame) (i : ℕ) (w : Wants) (ms : List OpenList) → AtItem n h (l ∷ ls) fs → eqb (length l.places.items) 0 ≡ false → fits l.head (length l.places.items) ≡ true → ((es : List Term) → AllAt h l.places.items es → Makes h h' i (expand_list l.head es)) → Joined i ls w ms → Steps n h' (Ok w) ms (close p fs)
  closed_whole h' p [] i w ms at some fit makes j = absurd at.stand
  closed_whole h' p (f ∷ fs) i w ms at some fit makes j =
      let some' = some_items f fs at some in
      let fit' = fit_same f fs at ∙ fit in
      steps_ok n h' w ms _ _ (cond-false (eqb (length f.items) 0) _ _ some' ∙ cond-true (fits f.head (length f.items)) _ _ fit')
      (follows_closed n h l ls f fs at h' i w ms some' fit' makes j)

-- a number that was found in its range
pub ranged : (b : Bool) (m v : ℕ) → Some m ≡ cond b (Some v) None → (b ≡ true) × (m ≡ v)
ranged true m v e = (refl, cc)
ranged false m v e = let wrong : ◌≡◌ {A = ℕ} 0 1 = cc in absurd (omega arith)

module _ (n : ℕ) (h : Held) (ls : List OpenList) (fs : List Frame) (at : AtItem n h ls fs) (p m v : ℕ) (in-range-is : Some m ≡ cond (in_range n v) (Some v) None) where
  pub number_crowded : crowded_levels ls ≡ true → Steps n h (Err (Shape p)) ls (at_item n p (Number v) fs)
  number_crowded full =
      steps_err n h (Shape p) ls _ (cond-true (in_range n v) _ _ (ranged (in_range n v) m v in-range-is).0 ∙ cond-true (crowded fs) _ _ (sym (crowded_same h ls fs at.stand) ∙ full))

  pub number_joined : (h' : Held) (i : ℕ) (w : Wants) (ms : List OpenList) → crowded_levels ls ≡ false → Makes h h' i (member m) → Joined i ls w ms → Steps n h' (Ok w) ms (at_item n p (Number v) fs)
  number_joined h' i w ms room made j =
      let range = ranged (in_range n v) m v in-range-is in
      let room' = sym (crowded_same h ls fs at.stand) ∙ room in
      steps_ok n h' w ms _ _ (cond-true (in_range n v) _ _ range.0 ∙ cond-false (crowded fs) _ _ room')
      (follows_made n h h' (Rule.member v) i ls fs (frames_terms fs) w ms range.0 room' at.frames_good at.stand (subst (λ x. Makes h h' i (member x)) range.1 made) at.within (λ t k. in_right (subterms (member v)) (frames_terms fs) t k) j)

-- a word begins a list
module _ (n : ℕ) (h : Held) (ls : List OpenList) (fs : List Frame) (at : AtItem n h ls fs) (p : ℕ) (k : Kind) (x : Word) (is : k ≡ Kind.Word x) where
  pub word_crowded : crowded_levels ls ≡ true → Steps n h (Err (Shape p)) ls (at_item n p k fs)
  word_crowded full =
      steps_err n h (Shape p) ls _ (ap (λ j. at_item n p j fs) is ∙ cond-true (crowded fs) _ _ (sym (crowded_same h ls fs at.stand) ∙ full))

  waits_after : crowded fs ≡ false → (y : Word) → Follows n h (after y) ls (record { stage = after_word y; frames = fs })
  waits_after room Word.All = record { stage_good = (tt, room); frames_good = at.frames_good; waits = refl; stand = at.stand; within = at.within }
  waits_after room Word.Any = record { stage_good = (tt, room); frames_good = at.frames_good; waits = refl; stand = at.stand; within = at.within }
  waits_after room Word.Least = record { stage_good = (tt, room); frames_good = at.frames_good; waits = refl; stand = at.stand; within = at.within }
  waits_after room Word.Grid = record { stage_good = (tt, room); frames_good = at.frames_good; waits = refl; stand = at.stand; within = at.within }

  pub word_begun : (w : Wants) → crowded_levels ls ≡ false → w ≡ after x → Steps n h (Ok w) ls (at_item n p k fs)
  word_begun w room e =
      let room' = sym (crowded_same h ls fs at.stand) ∙ room in
      steps_ok n h w ls _ _ (ap (λ j. at_item n p j fs) is ∙ cond-false (crowded fs) _ _ room')
      (subst (λ y. Follows n h y ls (record { stage = after_word x; frames = fs })) (sym e) (waits_after room' x))
