-- A reader that follows the reading follows it through each step.
use Rattle.std.proofs.Common.{◌≡◌, ℕ, suc, ◌<◌, ◌≤◌, true, false, eqb, leb, List, [], ◌∷◌, ◌++◌, map, length, sym, refl, ap, ◌∙◌, subst, inl, inr, ⊎_elim, append_assoc, append-nil, arith}
use Rattle.std.proofs.lemmas.List.{map_push, length-map}
use Rattle.std.proofs.lemmas.Bool.{eqb-false}
use Rattle.interning.specs.Distinct.{distinct}
use Rattle.interning.proofs.Distinct.{counted, distinct_adds_none, distinct_once}
use Rattle.rules.specs.declared.nest.OpenList.{OpenList}
use Rattle.rules.specs.declared.reader.Wants.{Wants}
use Rattle.rules.specs.declared.reader.Wants.TheVariants.{Item, Bracket as WantsBracket, Nothing}
use Rattle.rules.specs.declared.words.Head.{Head}
use Rattle.rules.specs.Building.{Held, At, AllAt, Within, Adds, Makes, different}
use Rattle.rules.specs.Following.{LevelStands, LevelsStand, items_terms, frames_terms, Follows, Joined, AtItem}
use Rattle.rules.specs.Levels.{crowded as crowded_levels}
use Rattle.rules.specs.Members.{◌∈◌, ◌⊆◌}
use Rattle.rules.specs.Progress.{FramesGood}
use Rattle.rules.specs.Reading.{Frame, wants_bracket, crowded, joined, items_of, fits}
use Rattle.rules.specs.Rules.{Rule, list}
use Rattle.rules.specs.Spelling.{Figure, InOrder}
use Rattle.rules.specs.Terms.{Term, same, expand, expanded, expand_list, subterms}
use Rattle.interning.proofs.Members.{in_either, in_left, in_right}
use Rattle.rules.proofs.Grid.{in_map, items_inside}
use Rattle.rules.proofs.Making.{all_at_kept, all_at_length, all_at_push}
use Rattle.rules.proofs.ReadingSpells.{joined_reached, list_in_order}
use Rattle.rules.proofs.Subterms.{same_decides}

-- more terms are as many different ones at least
pub different_wider : (ts us : List Term) → ts ⊆ us → different ts ≤ different us
different_wider ts us sub = (counted same_decides (distinct same ts) us (distinct_once same_decides ts) (λ t m. sub t (distinct_adds_none same_decides ts t m))).within

pub within_wider : {h : Held} {ts us : List Term} → ts ⊆ us → Within h ts → Within h us
within_wider {h} {ts} {us} sub w = record { inside = λ t m. sub t (w.inside t m); over = λ o. omega (arith, w.over o, different_wider ts us sub) }

pub levels_length : (h : Held) (ls : List OpenList) (fs : List Frame) → LevelsStand h ls fs → length ls ≡ length fs
levels_length h [] [] s = refl
levels_length h [] (f ∷ fs) s = absurd s
levels_length h (l ∷ ls) [] s = absurd s
levels_length h (l ∷ ls) (f ∷ fs) s = ap suc (levels_length h ls fs s.1)

pub levels_kept : {h h' : Held} {us : List Term} → Adds h h' us → (ls : List OpenList) (fs : List Frame) → LevelsStand h ls fs → LevelsStand h' ls fs
levels_kept a [] [] s = tt
levels_kept a [] (f ∷ fs) s = absurd s
levels_kept a (l ∷ ls) [] s = absurd s
levels_kept a (l ∷ ls) (f ∷ fs) s = (record { head = s.0.head; items = all_at_kept a l.places.items (map expand f.items) s.0.items }, levels_kept a ls fs s.1)

pub expanded_map : (rs : List Rule) → expanded (items_of rs) ≡ map expand rs
expanded_map [] = refl
expanded_map (r ∷ rs) = ap (λ es. expand r ∷ es) (expanded_map rs)

-- a list is opened
pub follows_open : (n : ℕ) (h : Held) (x : Head) (ls : List OpenList) (fs : List Frame) → length fs < 16 → Follows n h (WantsBracket x) ls (record { stage = wants_bracket x; frames = fs }) → AtItem n h (record { head = x; places = record { items = [] } } ∷ ls) (record { head = x; items = [] } ∷ fs)
follows_open n h x ls fs room f = record {
  stage_good = tt;
  frames_good = (room, f.stage_good.0, omega arith, tt, f.stage_good.1, f.frames_good);
  waits = tt;
  stand = (record { head = refl; items = tt }, f.stand);
  within = f.within;
}

items_terms_push : (rs : List Rule) (r : Rule) → items_terms (rs ++ (r ∷ [])) ≡ items_terms rs ++ subterms (expand r)
items_terms_push [] r = append-nil (subterms (expand r))
items_terms_push (q ∷ rs) r = ap (λ ts. subterms (expand q) ++ ts) (items_terms_push rs r) ∙ sym (append_assoc (subterms (expand q)) (items_terms rs) (subterms (expand r)))

-- an item's terms first or last among those of its list
first_or_last : (us vs ts : List Term) → (us ++ (vs ++ ts)) ⊆ ((vs ++ us) ++ ts)
first_or_last us vs ts t m =
    ⊎_elim (λ u. in_left (vs ++ us) ts t (in_right vs us t u))
    (λ r. ⊎_elim (λ v. in_left (vs ++ us) ts t (in_left vs us t v)) (λ w. in_right (vs ++ us) ts t w) (in_either vs ts t r))
    (in_either us (vs ++ ts) t m)

frames_terms_push : (r : Rule) (f : Frame) (fs : List Frame) → (subterms (expand r) ++ frames_terms (f ∷ fs)) ⊆ frames_terms (record { head = f.head; items = f.items ++ (r ∷ []) } ∷ fs)
frames_terms_push r f fs t m =
    subst (λ us. t ∈ (us ++ frames_terms fs)) (sym (items_terms_push f.items r)) (first_or_last (subterms (expand r)) (items_terms f.items) (frames_terms fs) t m)

-- an item that stands at a place joins the innermost open list, or is the whole rule
pub follows_joined : (n : ℕ) (h : Held) (r : Rule) (p : ℕ) (ls : List OpenList) (fs : List Frame) (w : Wants) (ms : List OpenList) → InOrder n (length fs) r → crowded fs ≡ false → FramesGood n fs → LevelsStand h ls fs → At h p (expand r) → Within h (subterms (expand r) ++ frames_terms fs) → Joined p ls w ms → Follows n h w ms (joined r fs)
follows_joined n h r p [] [] w ms order room good stand at within j =
    subst (λ x. Follows n h x ms (joined r [])) (sym j.0) (subst (λ xs. Follows n h (Nothing p) xs (joined r [])) (sym j.1) (record {
      stage_good = (tt, order);
      frames_good = tt;
      waits = at;
      stand = tt;
      within = subst (Within h) (append-nil (subterms (expand r))) within;
    }))
follows_joined n h r p [] (f ∷ fs) w ms order room good stand at within j = absurd stand
follows_joined n h r p (l ∷ ls) [] w ms order room good stand at within j = absurd stand
follows_joined n h r p (l ∷ ls) (f ∷ fs) w ms order room good stand at within j =
    let reached = joined_reached n r (f ∷ fs) order room good in
    subst (λ x. Follows n h x ms (joined r (f ∷ fs))) (sym j.0) (subst (λ xs. Follows n h Item xs (joined r (f ∷ fs))) (sym j.1) (record {
      stage_good = tt;
      frames_good = reached.1;
      waits = tt;
      stand = (record { head = stand.0.head; items = subst (AllAt h (l.places.items ++ (p ∷ []))) (sym (map_push expand f.items r)) (all_at_push h l.places.items (map expand f.items) p (expand r) stand.0.items at) }, stand.1);
      within = within_wider (frames_terms_push r f fs) within;
    }))

-- an item that was made
pub follows_made : (n : ℕ) (h h' : Held) (r : Rule) (p : ℕ) (ls : List OpenList) (fs : List Frame) (ts : List Term) (w : Wants) (ms : List OpenList) → InOrder n (length fs) r → crowded fs ≡ false → FramesGood n fs → LevelsStand h ls fs → Makes h h' p (expand r) → Within h ts → ts ⊆ (subterms (expand r) ++ frames_terms fs) → Joined p ls w ms → Follows n h' w ms (joined r fs)
follows_made n h h' r p ls fs ts w ms order room good stand made within sub j =
    follows_joined n h' r p ls fs w ms order room good (levels_kept made.adds ls fs stand) made.at
    (made.adds.only (subterms (expand r) ++ frames_terms fs) (λ t m. in_left (subterms (expand r)) (frames_terms fs) t m) (within_wider sub within)) j

-- the terms of a list's items are terms of the list
items_in_list : (x : Head) (rs : List Rule) (es : List Term) → Figure x → 1 ≤ length es → fits x (length es) ≡ true → ((r : Rule) → r ∈ rs → expand r ∈ es) → items_terms rs ⊆ subterms (expand_list x es)
items_in_list x [] es figure some fit in-es t m = absurd m
items_in_list x (r ∷ rs) es figure some fit in-es t m =
    ⊎_elim (λ l. items_inside x es (expand r) figure some fit (in-es r (inl refl)) t l)
    (λ l. items_in_list x rs es figure some fit (λ q k. in-es q (inr k)) t l)
    (in_either (subterms (expand r)) (items_terms rs) t m)

-- as many places as items
pub level_length : (h : Held) (l : OpenList) (f : Frame) → LevelStands h l f → length l.places.items ≡ length f.items
level_length h l f s = all_at_length h l.places.items (map expand f.items) s.items ∙ length-map f.items expand

pub crowded_same : (h : Held) (ls : List OpenList) (fs : List Frame) → LevelsStand h ls fs → crowded_levels ls ≡ crowded fs
crowded_same h [] [] s = refl
crowded_same h [] (f ∷ fs) s = absurd s
crowded_same h (l ∷ ls) [] s = absurd s
crowded_same h (l ∷ ls) (f ∷ fs) s = ap (leb 64) (level_length h l f s.0)

-- the innermost list is closed
module _ (n : ℕ) (h : Held) (l : OpenList) (ls : List OpenList) (f : Frame) (fs : List Frame) (at : AtItem n h (l ∷ ls) (f ∷ fs)) where
  abbrev whole : Rule
  whole = list f.head (items_of f.items)

  made_whole : (h' : Held) (p : ℕ) → ((es : List Term) → AllAt h l.places.items es → Makes h h' p (expand_list l.head es)) → Makes h h' p (expand whole)
  made_whole h' p makes =
      subst (λ es. Makes h h' p (expand_list f.head es)) (sym (expanded_map f.items))
      (subst (λ x. Makes h h' p (expand_list x (map expand f.items))) at.stand.0.head (makes (map expand f.items) at.stand.0.items))

  pub follows_closed : (h' : Held) (p : ℕ) (w : Wants) (ms : List OpenList) → eqb (length f.items) 0 ≡ false → fits f.head (length f.items) ≡ true → ((es : List Term) → AllAt h l.places.items es → Makes h h' p (expand_list l.head es)) → Joined p ls w ms → Follows n h' w ms (joined whole fs)
  follows_closed h' p w ms some fit makes j =
      let good = at.frames_good in
      let size = length-map f.items expand in
      let one : 1 ≤ length f.items = omega (arith, eqb-false (length f.items) 0 some) in
      follows_made n h h' whole p ls fs (frames_terms (f ∷ fs)) w ms (list_in_order n f fs good some fit) good.4 good.5 at.stand.1 (made_whole h' p makes) at.within
      (λ t m. ⊎_elim
      (λ k. in_left (subterms (expand whole)) (frames_terms fs) t
      (subst (λ es. t ∈ subterms (expand_list f.head es)) (sym (expanded_map f.items))
      (items_in_list f.head f.items (map expand f.items) good.1 (omega (arith, size)) (ap (fits f.head) size ∙ fit) (in_map expand f.items) t k)))
      (λ k. in_right (subterms (expand whole)) (frames_terms fs) t k)
      (in_either (items_terms f.items) (frames_terms fs) t m)) j
