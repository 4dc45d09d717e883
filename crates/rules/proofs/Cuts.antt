-- How the runs of a text begin: a stretch of blanks is passed over, a longest stretch of digits or of letters is one run, and any other byte is a run by itself.
use Rattle.std.proofs.Common.{◌≡◌, ℕ, zero, suc, ◌+◌, ◌-◌, ◌<◌, ◌≤◌, false, ◌&&◌, eqb, List, [], ◌∷◌, map, length, get_or, take, drop, sym, refl, ap, ◌∙◌, subst, ⊎_elim, add-zero, arith}
use Rattle.std.specs.List.{between}
use Rattle.std.proofs.lemmas.List.{at_drop_more, drop_more, get_or-drop, length-drop, drop_all}
use Rattle.std.proofs.lemmas.Bool.{ne_eqb, eq-eqb, and_left, and_right, and_from, cond-true, cond-false, cond_both, cases_lt}
use Rattle.rules.specs.declared.classes.Class.{Class}
use Rattle.rules.specs.declared.classes.Class.TheVariants.{Digit, Letter, Open, Close, Blank, Other}
use Rattle.rules.specs.Classes.{class}
use Rattle.rules.specs.Runs.{Run, rank, begins, single, lengthen, grow, lead, runs}
use Rattle.rules.specs.Scanning.{OneClass, FirstRun, ahead}
use Rattle.rules.specs.Tokens.{classed, lexeme}
use Rattle.rules.proofs.Ranks.{other_rank}

-- runs that begin with a byte at a place begin neither before it nor with another class
module _ (a at : ℕ) (j : Class) where
  abbrev Unlike : List Run → Type 0
  Unlike rs = begins a j rs ≡ false

  lengthen_place : (k : Class) (b : ℕ) (rs : List Run) → (eqb at a && eqb (rank k) (rank j)) ≡ false → Unlike (lengthen at k b rs)
  lengthen_place k b [] e = e
  lengthen_place k b (r ∷ rs) e = e

  grow_place : (k : Class) (b : ℕ) (rs : List Run) → (eqb at a && eqb (rank k) (rank j)) ≡ false → Unlike (grow at k b rs)
  grow_place k b rs e = cond_both (begins (at + 1) k rs) (lengthen at k b rs) (single at k b ∷ rs) Unlike (λ _. lengthen_place k b rs e) (λ _. e)

  lead_place : (k : Class) (b : ℕ) (rs : List Run) → (eqb at a && eqb (rank k) (rank j)) ≡ false → Unlike rs → Unlike (lead at k b rs)
  lead_place Digit b rs e u = grow_place Digit b rs e
  lead_place Letter b rs e u = grow_place Letter b rs e
  lead_place Open b rs e u = e
  lead_place Close b rs e u = e
  lead_place Blank b rs e u = u
  lead_place Other b rs e u = e

begins_before : (bs : List ℕ) (a at : ℕ) (j : Class) → a < at → begins a j (runs at bs) ≡ false
begins_before [] a at j h = refl
begins_before (b ∷ bs) a at j h =
    lead_place a at j (class b) b (runs (at + 1) bs) (and_left (eqb at a) _ (ne_eqb at a (λ e. omega arith))) (begins_before bs a (at + 1) j (omega arith))

begins_other : (bs : List ℕ) (at : ℕ) (j : Class) → (0 < length bs → class (get_or bs 0 0) ≡ j → ⊥) → begins at j (runs at bs) ≡ false
begins_other [] at j h = refl
begins_other (b ∷ bs) at j h =
    lead_place at at j (class b) b (runs (at + 1) bs) (and_right (eqb at at) _ (other_rank (class b) j (h (omega arith)))) (begins_before bs at (at + 1) j (omega arith))

module _ (text : List ℕ) where
  -- the runs from a place on
  abbrev from : ℕ → List Run
  from a = runs a (drop a text)

  one_byte : (a : ℕ) (k : Class) → a < length text → class (get_or text a 0) ≡ k → from a ≡ lead a k (get_or text a 0) (from (a + 1))
  one_byte a k h e =
      at_drop_more (runs a) text a 0 h
      ∙ ap (λ c. lead a c (get_or text a 0) (from (a + 1))) e

  blanks_by : (m a : ℕ) → a + m ≤ length text → ((i : ℕ) → a ≤ i → i < a + m → class (get_or text i 0) ≡ Blank) → from a ≡ from (a + m)
  blanks_by zero a h all = ap from (sym (add-zero a))
  blanks_by (suc m) a h all =
      let same : a + 1 + m ≡ a + suc m = omega arith in
      one_byte a Blank (omega arith) (all a (omega arith) (omega arith))
      ∙ blanks_by m (a + 1) (omega arith) (λ i low high. all i (omega arith) (omega arith))
      ∙ ap from same

  pub blanks_passed : (a e : ℕ) → OneClass text Blank a e → from a ≡ from e
  blanks_passed a e h =
      let back : a + (e - a) ≡ e = omega (arith, h.onward) in
      blanks_by (e - a) a (omega (arith, h.within, h.onward)) (λ i low high. h.all i low (omega (arith, h.onward))) ∙ ap from back

  stops_at : (e : ℕ) {k : Class} → (e < length text → class (get_or text e 0) ≡ k → ⊥) → 0 < length (drop e text) → class (get_or (drop e text) 0 0) ≡ k → ⊥
  stops_at e stops some is =
      let inside : e < length text = omega (arith, length-drop e text) in
      stops inside (ap class (ap (λ i. get_or text i 0) (sym (add-zero e)) ∙ sym (get_or-drop e text 0 0)) ∙ is)

  -- a class whose bytes join to runs
  module _ (k : Class) (joins : (a b : ℕ) (rs : List Run) → lead a k b rs ≡ grow a k b rs) where
    abbrev stretch : ℕ → ℕ → Run
    stretch a m = record { place = a; class = k; bytes = take m (drop a text) }

    stretch_by : (m a : ℕ) → a + suc m ≤ length text → ((i : ℕ) → a ≤ i → i < a + suc m → class (get_or text i 0) ≡ k) → (a + suc m < length text → class (get_or text (a + suc m) 0) ≡ k → ⊥) → from a ≡ stretch a (suc m) ∷ from (a + suc m)
    stretch_by zero a h all stops =
        let b = get_or text a 0 in
        let end : begins (a + 1) k (from (a + 1)) ≡ false = begins_other (drop (a + 1) text) (a + 1) k (stops_at (a + 1) stops) in
        one_byte a k (omega arith) (all a (omega arith) (omega arith))
        ∙ joins a b (from (a + 1))
        ∙ cond-false (begins (a + 1) k (from (a + 1))) _ _ end
        ∙ ap (λ bs. record { place = a; class = k; bytes = take 1 bs } ∷ from (a + 1)) (sym (drop_more text a 0 (omega arith)))
    stretch_by (suc m) a h all stops =
        let b = get_or text a 0 in
        let same : a + 1 + suc m ≡ a + suc (suc m) = omega arith in
        let later : from (a + 1) ≡ stretch (a + 1) (suc m) ∷ from (a + 1 + suc m) =
        stretch_by m (a + 1) (omega arith) (λ i low high. all i (omega arith) (omega arith)) (subst (λ e. e < length text → class (get_or text e 0) ≡ k → ⊥) (sym same) stops) in
        one_byte a k (omega arith) (all a (omega arith) (omega arith))
        ∙ joins a b (from (a + 1))
        ∙ ap (grow a k b) later
        ∙ cond-true _ _ _ (and_from _ _ (eq-eqb (a + 1) (a + 1) refl) (eq-eqb (rank k) (rank k) refl))
        ∙ ap (λ bs. record { place = a; class = k; bytes = take (suc (suc m)) bs } ∷ from (a + 1 + suc m)) (sym (drop_more text a 0 (omega arith)))
        ∙ ap (λ e. stretch a (suc (suc m)) ∷ from e) same

    -- the longest stretch of the class from a place on is the first run
    pub stretch_first : (a e : ℕ) → OneClass text k a e → a < e → from a ≡ stretch a (e - a) ∷ from e
    stretch_first a e h l =
        let back : a + suc (e - a - 1) ≡ e = omega arith in
        let size : suc (e - a - 1) ≡ e - a = omega arith in
        stretch_by (e - a - 1) a (omega (arith, h.within)) (λ i low high. h.all i low (omega arith)) (subst (λ x. x < length text → class (get_or text x 0) ≡ k → ⊥) (sym back) h.stops)
        ∙ (λ i. stretch a (size i) ∷ from (back i))

    pub first_joined : (a e : ℕ) → a < length text → class (get_or text a 0) ≡ k → OneClass text k a e → FirstRun text a e
    first_joined a e h is one =
        let l : a < e = ⊎_elim (λ (l : a < e). l) (λ (l : e ≤ a). let same : a ≡ e = omega (arith, one.onward) in absurd (one.stops (omega arith) (ap (λ i. class (get_or text i 0)) (sym same) ∙ is))) (cases_lt a e) in
        record {
          onward = l;
          within = one.within;
          cut = ap (map lexeme) (stretch_first a e one l) ∙ ap (λ c. classed c a (between a e text) ∷ ahead text e) (sym is);
        }

pub blanks_ahead : (text : List ℕ) (a e : ℕ) → OneClass text Blank a e → ahead text a ≡ ahead text e
blanks_ahead text a e h = ap (map lexeme) (blanks_passed text a e h)

-- nothing is ahead at the end of a text
pub end_ahead : (text : List ℕ) (a : ℕ) → length text ≤ a → ahead text a ≡ []
end_ahead text a h = ap (λ bs. map lexeme (runs a bs)) (drop_all a text h)
