-- What passes on the target after a call that is let in.
use Rattle.std.proofs.Common.{◌≡◌, ℕ, ◌<◌, ◌≤◌, Bool, ◌&&◌, ◌||◌, List, length, Some, None, Ok, Err, Result, sym, refl, ap, ◌∙◌, subst, ap₂, arith}
use Rattle.rules.specs.declared.faults.RuleFault.{RuleFault}
use Rattle.rules.specs.Rules as rule
use Rattle.rules.specs.Terms.{Term}
use Rattle.rules.specs.Outcome.{outcome}
use Rattle.families.specs.Sets.{counting}
use Rattle.families.specs.Groups.{holds}
use Rattle.families.specs.Trees.{passes}
use Rattle.families.specs.Questions as ask
use Rattle.families.specs.Outcomes.{after, answer}
use Rattle.families.specs.Replacing.{replaced}
use Rattle.families.proofs.Cutting.{replacing}
use Rattle.families.proofs.Stopping.{stopping_passes}
use Rattle.families.proofs.Laws.{passes_either, passes_both}
use Rattle.calls.specs.Shelves.{Sizes, Shelves, Stand, Stocked, on_shelf, tree_on, put, passes_on}
use Rattle.calls.specs.Acts.{Act, set, copy, clear, either, both, turn, replace, same, count, verdict, groups, tally, sheet}
use Rattle.calls.specs.Works.{family, rule_work}
use Rattle.calls.specs.Denials.{rule_no, denial}
use Rattle.calls.specs.Answers.{result, changed}
use Rattle.calls.specs.Events.{Event, Happens}
use Rattle.calls.specs.Lives.{Life}
use Rattle.calls.specs.Passing.{PassesAfter}
use Rattle.calls.proofs.Texts.{text_passes}
use Rattle.calls.proofs.Stands.{passes_tree, stops_tree, put_here}
use Rattle.calls.proofs.LetIn.{some_none, named_below, text_read}
use Rattle.calls.proofs.Sources.{sources_stand}
use Rattle.calls.proofs.Stocking.{life_allowed, life_stocked}
use Rattle.calls.proofs.Denying.{undenied_let_in}

rule_passes : (o : Result Term RuleFault) → rule_no o ≡ None → (p : (ℕ → Bool) → Bool) → ((t : Term) → o ≡ Ok t → (g : ℕ → Bool) → passes (family t) g ≡ p g) → (g : ℕ → Bool) → passes_on (result (rule_work o)) g ≡ p g
rule_passes (Err f) e p h g = absurd (some_none _ e)
rule_passes (Ok t) e p h g = h t refl g

-- what passes on a shelf that something was put on
put_passes : (c : ℕ) (s : Stand) (ss : Shelves) (g : ℕ → Bool) → c < length ss → passes_on (on_shelf (put c s ss) c) g ≡ passes_on s g
put_passes c s ss g l = ap (λ x. passes_on x g) (put_here c s ss l)

module _ (z : Sizes) (ss : Shelves) (len : ℕ) (few : z.members ≤ 48) (k : Stocked z.members ss) where
  within : (c : ℕ) → c < 16 → c < length ss
  within c l = omega (arith, k.sixteen)

  pub changed_passes : (a : Act) → denial z ss a len ≡ None → PassesAfter z ss a (changed z ss a)
  unfolding after
  changed_passes (set c text) e = λ r h g.
      put_passes c (result (rule_work (outcome z.members z.terms text))) ss g (within c (named_below z ss (set c text) len e).0)
      ∙ rule_passes (outcome z.members z.terms text) (text_read z ss (set c text) len e) (rule.passes r) (λ t d. text_passes z.members few z.terms text t d r h) g
  changed_passes (copy a c) e = λ g. put_passes c (on_shelf ss a) ss g (within c (named_below z ss (copy a c) len e).1.0)
  changed_passes (clear c) e = λ g. put_passes c None ss g (within c (named_below z ss (clear c) len e).0)
  changed_passes (either a b c) e = λ g.
      let l = named_below z ss (either a b c) len e in
      let h = sources_stand z ss (either a b c) len k e in
      put_passes c (Some (answer (ask.either (tree_on ss a) (tree_on ss b)))) ss g (within c l.1.1.0)
      ∙ passes_either (tree_on ss a) (tree_on ss b) h.0.proper.good h.1.0.proper.good g
      ∙ sym (ap₂ (λ x y. x || y) (passes_tree (on_shelf ss a) g) (passes_tree (on_shelf ss b) g))
  changed_passes (both a b c) e = λ g.
      let l = named_below z ss (both a b c) len e in
      let h = sources_stand z ss (both a b c) len k e in
      put_passes c (Some (answer (ask.both (tree_on ss a) (tree_on ss b)))) ss g (within c l.1.1.0)
      ∙ passes_both (tree_on ss a) (tree_on ss b) h.0.proper.good h.1.0.proper.good g
      ∙ sym (ap₂ (λ x y. x && y) (passes_tree (on_shelf ss a) g) (passes_tree (on_shelf ss b) g))
  changed_passes (turn a c) e = λ n q.
      let l = named_below z ss (turn a c) len e in
      let h = sources_stand z ss (turn a c) len k e in
      let there = put_passes c (Some (answer (ask.turn (tree_on ss a)))) ss (holds n) (within c l.1.0) in
      let s = stops_tree (on_shelf ss a) n in
      let t = stopping_passes (tree_on ss a) h.0.proper.good n in
      ((λ p. s.1 (t.1 (sym there ∙ p))), λ p. there ∙ t.0 (s.0 p))
  changed_passes (replace a u b c) e = λ g.
      let l = named_below z ss (replace a u b c) len e in
      let h = sources_stand z ss (replace a u b c) len k e in
      put_passes c (Some (replaced (tree_on ss a) u (tree_on ss b))) ss g (within c l.1.1.0)
      ∙ (replacing (tree_on ss a) (tree_on ss b) u h.0.proper.good h.1.0.proper.good).asks g
      ∙ sym (passes_tree (on_shelf ss a) (counting u (passes_on (on_shelf ss b) g) g) ∙ ap (λ x. passes (tree_on ss a) (counting u x g)) (passes_tree (on_shelf ss b) g))
  changed_passes (same a b) e = tt
  changed_passes (count a) e = tt
  changed_passes (verdict a) e = tt
  changed_passes (groups a n) e = tt
  changed_passes tally e = tt
  changed_passes (sheet a) e = tt

pub passes_after : (z : Sizes) (es : List Event) (ss tt' : Shelves) (e : Event) → Life z es ss → Happens z ss e tt' → denial z ss e.call (length e.before) ≡ None → PassesAfter z ss e.call tt'
passes_after z es ss tt' e l h d =
    subst (PassesAfter z ss e.call) (sym (undenied_let_in z ss tt' e h d).1.shelves) (changed_passes z ss (length e.before) (life_allowed l).few_members (life_stocked l) e.call d)
