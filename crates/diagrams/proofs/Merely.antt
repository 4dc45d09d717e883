-- That notes are right and closed can be taken out of a truncation: what they claim can be decided.
use Rattle.std.proofs.Common.{◌≡◌, ℕ, zero, suc, Bool, true, false, ◌&&◌, ◌==◌, List, [], ◌∷◌, map, length, sym, refl, ap, ◌∙◌, subst, inl, inr, ⊎_elim, arith}
use mathlib.Core.HLevel.{×_prop, ⊥_prop}
use mathlib.Core.Logic.{∥∥₁_elim, ∥∥₁_map}
use Rattle.std.proofs.lemmas.Bool.{cases_Bool, eq-eqb, eqb-true, false≢true}
use Rattle.interning.specs.Distinct.{◌∈◌, Exact, among}
use Rattle.interning.proofs.Distinct.{among_in, in_among}
use Rattle.memos.specs.declared.question.Question.{Question}
use Rattle.memos.specs.declared.question.Question.TheVariants.{Either, Both, Less, Turn, Off, On}
use Rattle.memos.specs.Diagrams.{seen}
use Rattle.memos.specs.Notes.{Note}
use Rattle.families.specs.Trees.{Tree, equal}
use Rattle.families.specs.Questions.{Ask, either, both, less, turn, off, on}
use Rattle.families.specs.Outcomes.{outcome, answer}
use Rattle.families.specs.Meanings.{GoodAsk}
use Rattle.families.proofs.Sights.{equal_is, equal_self}
use Rattle.diagrams.specs.NodeKeys.{tree_at}
use Rattle.diagrams.specs.Asking.{OperandsHeld, ask_at}
use Rattle.diagrams.specs.Building.{Denotes}
use Rattle.diagrams.specs.Solving.{AllRight, Closed, HasNote, Right}
use Rattle.diagrams.proofs.GoodTrees.{good_prop}
use Rattle.diagrams.proofs.NodeTrees.{below_prop}
use Rattle.diagrams.proofs.Uniquely.{kind, left, right, member}

-- an entry that is merely in a list is in it
in_out : {A : Type 0} (same : A → A → Bool) → Exact same → (x : A) (xs : List A) → ∥ x ∈ xs ∥₁ → x ∈ xs
in_out same exact x xs h = ⊎_elim
    (λ (e : among same x xs ≡ true). among_in exact x xs e)
    (λ (e : among same x xs ≡ false). absurd (∥∥₁_elim h ⊥_prop (λ m. false≢true (sym e ∙ in_among exact x xs m))))
    (cases_Bool (among same x xs))

pub trees_exact : Exact equal
trees_exact s t = (equal_is s t, λ e. subst (λ z. equal s z ≡ true) e (equal_self s))

tree_out : (s t : Tree) → ∥ s ≡ t ∥₁ → s ≡ t
tree_out s t h = ⊎_elim (λ e. e) (λ (f : ⊥). absurd f) (in_out equal trees_exact s (t ∷ []) (∥∥₁_map h (λ e. inl e)))

-- whether two questions are the same
abbrev same_ask : Ask → Ask → Bool
same_ask p q = kind p == kind q && (equal (left p) (left q) && (equal (right p) (right q) && member p == member q))

remade : ℕ → Tree → Tree → ℕ → Ask
remade zero f g u = either f g
remade (suc zero) f g u = both f g
remade (suc (suc zero)) f g u = less f g
remade (suc (suc (suc zero))) f g u = turn f
remade (suc (suc (suc (suc zero)))) f g u = off f u
remade (suc (suc (suc (suc (suc k))))) f g u = on f u

remade_is : (q : Ask) → remade (kind q) (left q) (right q) (member q) ≡ q
unfolding remade
remade_is (either f g) = refl
remade_is (both f g) = refl
remade_is (less f g) = refl
remade_is (turn f) = refl
remade_is (off f u) = refl
remade_is (on f u) = refl

same_self : (q : Ask) → same_ask q q ≡ true
same_self q =
    let k = eq-eqb (kind q) (kind q) refl in
    let n = eq-eqb (member q) (member q) refl in
    let l = equal_self (left q) in
    let r = equal_self (right q) in
    grind arith

asks_exact : Exact same_ask
asks_exact p q = (
  (λ e.
      let k : (kind p == kind q) ≡ true = grind arith in
      let l : equal (left p) (left q) ≡ true = grind arith in
      let r : equal (right p) (right q) ≡ true = grind arith in
      let n : (member p == member q) ≡ true = grind arith in
      sym (remade_is p) ∙ (λ i. remade (eqb-true _ _ k i) (equal_is (left p) (left q) l i) (equal_is (right p) (right q) r i) (eqb-true _ _ n i)) ∙ remade_is q),
  (λ e. subst (λ z. same_ask p z ≡ true) e (same_self p)),
)

in_map : {A B : Type 0} (f : A → B) (x : A) (xs : List A) → x ∈ xs → f x ∈ map f xs
in_map f x [] m = absurd m
in_map f x (y ∷ ys) (inl e) = inl (ap f e)
in_map f x (y ∷ ys) (inr m) = inr (in_map f x ys m)

of_map : {A B : Type 0} (f : A → B) (y : B) (xs : List A) → y ∈ map f xs → (x : A) × (x ∈ xs) × (y ≡ f x)
of_map f y [] m = absurd m
of_map f y (x ∷ xs) (inl e) = (x, inl refl, e)
of_map f y (x ∷ xs) (inr m) = let r = of_map f y xs m in (r.0, inr r.1, r.2)

ask_prop : (b : ℕ) (q : Ask) → IsProp (GoodAsk b q)
ask_prop b (either f g) = ×_prop (good_prop b f) (good_prop b g)
ask_prop b (both f g) = ×_prop (good_prop b f) (good_prop b g)
ask_prop b (less f g) = ×_prop (good_prop b f) (good_prop b g)
ask_prop b (turn f) = good_prop b f
ask_prop b (off f u) = good_prop b f
ask_prop b (on f u) = good_prop b f

operands_prop : (ts : List Tree) (q : Question) → IsProp (OperandsHeld ts q)
operands_prop ts (Either f g) = ×_prop (below_prop (length ts) (seen f)) (below_prop (length ts) (seen g))
operands_prop ts (Both f g) = ×_prop (below_prop (length ts) (seen f)) (below_prop (length ts) (seen g))
operands_prop ts (Less f g) = ×_prop (below_prop (length ts) (seen f)) (below_prop (length ts) (seen g))
operands_prop ts (Turn f) = below_prop (length ts) (seen f)
operands_prop ts (Off f u) = below_prop (length ts) (seen f)
operands_prop ts (On f u) = below_prop (length ts) (seen f)

module _ (ts : List Tree) (ns : List Note) where
  pub right_out : ∥ AllRight ts ns ∥₁ → AllRight ts ns
  right_out h n m =
      let q = ask_at ts n.0 in
      let is = λ (r : Right ts n). sym r.asks.is in
      let denotes = λ (r : Right ts n). subst (λ (p : Ask). Denotes ts n.1 (answer p)) (is r) r.settled.denotes in
      record {
        this = q;
        asks = record { held = ∥∥₁_elim h (operands_prop ts n.0) (λ a. (a n m).asks.held); is = refl };
        good = ∥∥₁_elim h (ask_prop 1 q) (λ a. subst (GoodAsk 1) (is (a n m)) (a n m).good);
        settled = record {
          denotes = record {
            within = ∥∥₁_elim h (below_prop (length ts) (seen n.1)) (λ a. (denotes (a n m)).within);
            is = tree_out (tree_at ts n.1) (answer q) (∥∥₁_map h (λ a. (denotes (a n m)).is));
          };
          held = λ t i. in_out equal trees_exact t ts (∥∥₁_map h (λ a. (a n m).settled.held t (subst (λ (p : Ask). t ∈ (outcome p).built) (sym (is (a n m))) i)));
        };
      }

  -- a question that merely has a note has one
  note_out : AllRight ts ns → (q : Ask) → ∥ HasNote ts ns q ∥₁ → HasNote ts ns q
  note_out all q h =
      let found = of_map (λ (n : Note). ask_at ts n.0) q ns (in_out same_ask asks_exact q (map (λ (n : Note). ask_at ts n.0) ns) (∥∥₁_map h (λ n. subst (λ p. p ∈ map (λ (z : Note). ask_at ts z.0) ns) n.2.is (in_map (λ (z : Note). ask_at ts z.0) n.0 ns n.1)))) in
      (found.0, found.1, record { held = (all found.0 found.1).asks.held; is = sym found.2 })

  pub closed_out : {keeps : Type 0} → AllRight ts ns → ∥ (keeps → Closed ts ns) ∥₁ → keeps → Closed ts ns
  closed_out all h k q p n m = note_out all p (∥∥₁_map h (λ closed. closed k q p n m))
