-- Shelves hold only families other than none and always, over the members of the bench.
use Rattle.std.proofs.Common.{◌≡◌, ℕ, ◌≤◌, List, length, Some, None, Ok, Err, Result, sym, refl, subst}
use lib.ListN.{get_or-replicate}
use Rattle.rules.specs.declared.faults.RuleFault.{RuleFault}
use Rattle.rules.specs.Terms.{Term}
use Rattle.rules.specs.Outcome as rule
use Rattle.families.specs.Questions as ask
use Rattle.families.specs.Outcomes.{after, answer}
use Rattle.families.specs.Replacing.{replaced}
use Rattle.families.proofs.Members.{upto_kept}
use Rattle.families.proofs.Properness.{proper_kept}
use Rattle.calls.specs.declared.answer.Answer.{Answer}
use Rattle.calls.specs.declared.faults.Fault.{Fault}
use Rattle.calls.specs.Shelves.{Sizes, Allowed, Shelves, Stocked, MayStand, fresh, on_shelf, tree_on}
use Rattle.calls.specs.Acts.{Act, set, copy, clear, either, both, turn, replace, same, count, verdict, groups, tally, sheet}
use Rattle.calls.specs.Works.{rule_work}
use Rattle.calls.specs.Denials.{denial}
use Rattle.calls.specs.Answers.{result, changed}
use Rattle.calls.specs.Events.{Event, Tells}
use Rattle.calls.specs.Lives.{Life, opened, goes_on}
use Rattle.calls.proofs.Bounds.{either_upto, replaced_upto}
use Rattle.calls.proofs.TermFamilies.{FamilyOf}
use Rattle.calls.proofs.Texts.{text_family}
use Rattle.calls.proofs.Stands.{put_stocked}
use Rattle.calls.proofs.LetIn.{named_below}
use Rattle.calls.proofs.Sources.{sources_stand}

fresh_stocked : (n : ℕ) → Stocked n fresh
fresh_stocked n = record { sixteen = refl; each = λ i h. subst (MayStand n) (sym (get_or-replicate 16 i None None h)) tt }

rule_stands : (n : ℕ) (o : Result Term RuleFault) → ((t : Term) → o ≡ Ok t → FamilyOf n t) → MayStand n (result (rule_work o))
rule_stands n (Err f) h = tt
rule_stands n (Ok t) h = let f = h t refl in (f.proper, f.upto)

changed_stocked : (z : Sizes) (ss : Shelves) (a : Act) (len : ℕ) → z.members ≤ 48 → Stocked z.members ss → denial z ss a len ≡ None → Stocked z.members (changed z ss a)
unfolding after
changed_stocked z ss (set c text) len few k e =
    put_stocked z.members c (result (rule_work (rule.outcome z.members z.terms text))) ss (named_below z ss (set c text) len e).0
    (rule_stands z.members (rule.outcome z.members z.terms text) (λ t h. text_family z.members few z.terms text t h)) k
changed_stocked z ss (copy a c) len few k e =
    let l = named_below z ss (copy a c) len e in
    put_stocked z.members c (on_shelf ss a) ss l.1.0 (k.each a l.0) k
changed_stocked z ss (clear c) len few k e = put_stocked z.members c None ss (named_below z ss (clear c) len e).0 tt k
changed_stocked z ss (either a b c) len few k e =
    let l = named_below z ss (either a b c) len e in
    let h = sources_stand z ss (either a b c) len k e in
    let f = h.0 in
    let g = h.1.0 in
    let p = (proper_kept (tree_on ss a) (tree_on ss b) f.proper g.proper).of_either in
    let u = upto_kept z.members (ask.either (tree_on ss a) (tree_on ss b)) (f.proper.good, g.proper.good) (either_upto z.members (tree_on ss a) (tree_on ss b) f.upto g.upto) in
    put_stocked z.members c (Some (answer (ask.either (tree_on ss a) (tree_on ss b)))) ss l.1.1.0 (p, u) k
changed_stocked z ss (both a b c) len few k e =
    let l = named_below z ss (both a b c) len e in
    let h = sources_stand z ss (both a b c) len k e in
    let f = h.0 in
    let g = h.1.0 in
    let p = (proper_kept (tree_on ss a) (tree_on ss b) f.proper g.proper).of_both in
    let u = upto_kept z.members (ask.both (tree_on ss a) (tree_on ss b)) (f.proper.good, g.proper.good) (either_upto z.members (tree_on ss a) (tree_on ss b) f.upto g.upto) in
    put_stocked z.members c (Some (answer (ask.both (tree_on ss a) (tree_on ss b)))) ss l.1.1.0 (p, u) k
changed_stocked z ss (turn a c) len few k e =
    let l = named_below z ss (turn a c) len e in
    let f = (sources_stand z ss (turn a c) len k e).0 in
    let p = (proper_kept (tree_on ss a) (tree_on ss a) f.proper f.proper).of_turn in
    let u = upto_kept z.members (ask.turn (tree_on ss a)) f.proper.good f.upto in
    put_stocked z.members c (Some (answer (ask.turn (tree_on ss a)))) ss l.1.0 (p, u) k
changed_stocked z ss (replace a v b c) len few k e =
    let l = named_below z ss (replace a v b c) len e in
    let h = sources_stand z ss (replace a v b c) len k e in
    let f = h.0 in
    let g = h.1.0 in
    let p = (proper_kept (tree_on ss a) (tree_on ss b) f.proper g.proper).of_replaced v in
    let u = replaced_upto z.members (tree_on ss a) (tree_on ss b) f.proper g.proper f.upto g.upto v in
    put_stocked z.members c (Some (replaced (tree_on ss a) v (tree_on ss b))) ss l.1.1.0 (p, u) k
changed_stocked z ss (same a b) len few k e = k
changed_stocked z ss (count a) len few k e = k
changed_stocked z ss (verdict a) len few k e = k
changed_stocked z ss (groups a n) len few k e = k
changed_stocked z ss tally len few k e = k
changed_stocked z ss (sheet a) len few k e = k

pub tells_stocked : (z : Sizes) (ss tt' : Shelves) (a : Act) (before : List ℕ) (r : Result Answer Fault) (after : List ℕ) → z.members ≤ 48 → Stocked z.members ss → Tells z ss a before r after tt' → Stocked z.members tt'
tells_stocked z ss tt' a before (Ok r) after few k h = subst (Stocked z.members) (sym h.shelves) (changed_stocked z ss a (length before) few k h.no_denial)
tells_stocked z ss tt' a before (Err f) after few k h = subst (Stocked z.members) (sym h.shelves) k

-- the sizes of a bench are allowed
pub life_allowed : {z : Sizes} {es : List Event} {ss : Shelves} → Life z es ss → Allowed z
life_allowed (opened a) = a
life_allowed (goes_on l h) = life_allowed l

pub life_stocked : {z : Sizes} {es : List Event} {ss : Shelves} → Life z es ss → Stocked z.members ss
life_stocked {z} (opened a) = fresh_stocked z.members
life_stocked {z} (goes_on {ss = ss} {tt = tt'} {e = e} l h) = tells_stocked z ss tt' e.call e.before e.told e.after (life_allowed l).few_members (life_stocked l) h
