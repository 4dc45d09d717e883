-- Off, on and replacing.
use Rattle.std.proofs.Common.{◌≡◌, ℕ, ◌-◌, Bool, true, false, not, ◌&&◌, ◌||◌, eqb, sym, refl, ap, ◌∙◌, ⊎_elim, arith}
use mathlib.Core.Path.{fun_ext}
use Rattle.std.proofs.lemmas.Bool.{eq-eqb, ne_eqb, or_cases, or_left, or_right, and_parts, and_from, both_ways, cases_Bool, cases_eq, not_from_false, cond-false, cond-true, cond_both, not-true, false≢true}
use Rattle.families.specs.Sets.{without, counting}
use Rattle.families.specs.Groups.{weight, holds}
use Rattle.families.specs.Trees.{Tree, passes, lists}
use Rattle.families.specs.Good.{occurs, Good}
use Rattle.families.specs.Questions.{either, both, off, on}
use Rattle.families.specs.Outcomes.{answer}
use Rattle.families.specs.Meanings.{Off, On}
use Rattle.families.specs.Replacing.{Cuts, Replacing}
use Rattle.families.proofs.Bools.{same_tests, refute}
use Rattle.families.proofs.Numbers.{holds_drop}
use Rattle.families.proofs.Listing.{lists_group}
use Rattle.families.proofs.Passing.{lists_passes, passes_lists}
use Rattle.families.proofs.Cuts.{lists_off, off_lists, lists_on, on_lists}
use Rattle.families.proofs.Solving.{answer_right}
use Rattle.families.proofs.Members.{occurs_lists, passes_free}

module _ (b u : ℕ) (f r s : Tree) (k : Good b f) (mr : Off b f u r) (ms : On b f u s) where
  -- a passing group of f is one without u, or one with u
  parts_from : (g : ℕ → Bool) → passes f g ≡ true → (passes r g || (g u && passes s g)) ≡ true
  parts_from g e =
      let x = passes_lists b f g k e in
      let n = x.0 in
      ⊎_elim
      (λ h.
      let d = (holds_drop n u (lists_group b f n k x.1) h).1 in
      let p = lists_passes b s (n - weight u) g ms.good (lists_on f s ms n x.1 h) (λ v y. x.2 v (and_parts (not (eqb v u)) (holds n v) (sym (d v) ∙ y)).1) in
      or_right (passes r g) (g u && passes s g) (and_from (g u) (passes s g) (x.2 u h) p))
      (λ h.
      let p = lists_off f r mr n ∙ and_from (lists f n) (not (holds n u)) x.1 (not_from_false (holds n u) h) in
      or_left (passes r g) (g u && passes s g) (lists_passes b r n g mr.good p x.2))
      (cases_Bool (holds n u))

  from_parts : (g : ℕ → Bool) → (passes r g || (g u && passes s g)) ≡ true → passes f g ≡ true
  from_parts g e = ⊎_elim
      (λ p. let x = passes_lists b r g mr.good p in lists_passes b f x.0 g k (off_lists f r mr x.0 x.1) x.2)
      (λ p.
      let q = and_parts (g u) (passes s g) p in
      let x = passes_lists b s g ms.good q.1 in
      let y = on_lists f s ms x.0 x.1 in
      let d = (holds_drop y.0 u (lists_group b f y.0 k y.1) y.2).1 in
      lists_passes b f y.0 g k y.1 (λ v h. ⊎_elim
      (λ z. ap g z ∙ q.0)
      (λ z. x.2 v (ap (λ w. holds w v) y.3 ∙ d v ∙ ap (λ w. not w && holds y.0 v) (ne_eqb v u z) ∙ h))
      (cases_eq v u)))
      (or_cases (passes r g) (g u && passes s g) e)

  pub whole_from : (g : ℕ → Bool) → passes f g ≡ (passes r g || (g u && passes s g))
  whole_from g = same_tests (passes f g) (passes r g || (g u && passes s g)) (parts_from g) (from_parts g)

  -- u stands in neither part
  pub off_free : occurs r u ≡ false
  off_free = refute (occurs r u) (λ e.
      let x = occurs_lists b r u mr.good e in
      both_ways (holds x.0 u) (not-true (holds x.0 u) (and_parts (lists f x.0) (not (holds x.0 u)) (sym (lists_off f r mr x.0) ∙ x.1)).1) x.2)

  pub on_free : occurs s u ≡ false
  on_free = refute (occurs s u) (λ e.
      let x = occurs_lists b s u ms.good e in
      let y = on_lists f s ms x.0 x.1 in
      let d = (holds_drop y.0 u (lists_group b f y.0 k y.1) y.2).1 u in
      false≢true (sym (ap (λ z. not z && holds y.0 u) (eq-eqb u u refl)) ∙ sym d ∙ ap (λ z. holds z u) (sym y.3) ∙ x.2))

counting_free : (u : ℕ) (c : Bool) (g : ℕ → Bool) (v : ℕ) → (v ≡ u → ⊥) → counting u c g v ≡ g v
counting_free u c g v d = cond-false (eqb v u) c (g v) (ne_eqb v u d)

counting_here : (u : ℕ) (c : Bool) (g : ℕ → Bool) → counting u c g u ≡ c
counting_here u c g = cond-true (eqb u u) c (g u) (eq-eqb u u refl)

-- f, with u counted in as c says
counted : (b u : ℕ) (f r s : Tree) → Good b f → Off b f u r → On b f u s → (c : Bool) (g : ℕ → Bool) → passes f (counting u c g) ≡ (passes r g || (c && passes s g))
counted b u f r s k mr ms c g =
    let e = whole_from b u f r s k mr ms (counting u c g) in
    let x = passes_free r u (counting u c g) g (off_free b u f r s k mr ms) (counting_free u c g) in
    let y = passes_free s u (counting u c g) g (on_free b u f r s k mr ms) (counting_free u c g) in
    let z = counting_here u c g in
    e ∙ ap (λ w. w || (counting u c g u && passes s (counting u c g))) x ∙ ap (λ w. passes r g || (w && passes s (counting u c g))) z ∙ ap (λ w. passes r g || (c && w)) y

pub cuts : Cuts
cuts f k u =
    let mr = answer_right 1 (omega arith) (omega arith) (off f u) k in
    let ms = answer_right 1 (omega arith) (omega arith) (on f u) k in
    let r = answer (off f u) in
    let s = answer (on f u) in
    record {
      off_asks = λ g. sym (without_counting f g ∙ counted 1 u f r s k mr ms false g ∙ or_no (passes r g));
      on_asks = λ g. sym (counted 1 u f r s k mr ms true g);
      whole = whole_from 1 u f r s k mr ms;
    }
  where
    or_no : (x : Bool) → (x || false) ≡ x
    or_no x = grind arith

    same_set : (g : ℕ → Bool) (v : ℕ) → without u g v ≡ counting u false g v
    same_set g v = cond_both (eqb v u) false (g v) (λ z. without u g v ≡ z) (λ e. ap (λ z. not z && g v) e) (λ e. ap (λ z. not z && g v) e)

    without_counting : (t : Tree) (g : ℕ → Bool) → passes t (without u g) ≡ passes t (counting u false g)
    without_counting t g = ap (passes t) (fun_ext (same_set g))

pub replacing : Replacing
replacing f g u kf kg =
    let mr = answer_right 1 (omega arith) (omega arith) (off f u) kf in
    let ms = answer_right 1 (omega arith) (omega arith) (on f u) kf in
    let mb = answer_right 1 (omega arith) (omega arith) (both (answer (on f u)) g) (ms.good, kg) in
    let me = answer_right 1 (omega arith) (omega arith) (either (answer (off f u)) (answer (both (answer (on f u)) g))) (mr.good, mb.good) in
    record {
      good = me.good;
      asks = λ s. me.asks s ∙ ap (λ z. passes (answer (off f u)) s || z) (mb.asks s ∙ and_swap (passes (answer (on f u)) s) (passes g s))
          ∙ sym (counted 1 u f (answer (off f u)) (answer (on f u)) kf mr ms (passes g s) s);
    }
  where
    and_swap : (x y : Bool) → (x && y) ≡ (y && x)
    and_swap x y = grind arith
