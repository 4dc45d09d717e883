-- Every shelf but the target is as it was.
use Rattle.std.proofs.Common.{ℕ, List, None, Ok, Err, Result, sym, refl, subst}
use Rattle.calls.specs.declared.answer.Answer.{Answer}
use Rattle.calls.specs.declared.faults.Fault.{Fault}
use Rattle.calls.specs.Shelves.{Sizes, Shelves, on_shelf}
use Rattle.calls.specs.Acts.{Act, set, copy, clear, either, both, turn, replace, same, count, verdict, groups, tally, sheet}
use Rattle.calls.specs.Works.{work}
use Rattle.calls.specs.Answers.{result, changed}
use Rattle.calls.specs.Events.{Event, Happens, Tells}
use Rattle.calls.specs.Passing.{OthersKept}
use Rattle.calls.proofs.Stands.{put_elsewhere}

changed_others : (z : Sizes) (ss : Shelves) (a : Act) → OthersKept ss a (changed z ss a)
changed_others z ss (set c text) = put_elsewhere c (result (work z ss (set c text))) ss
changed_others z ss (copy a c) = put_elsewhere c (on_shelf ss a) ss
changed_others z ss (clear c) = put_elsewhere c None ss
changed_others z ss (either a b c) = put_elsewhere c (result (work z ss (either a b c))) ss
changed_others z ss (both a b c) = put_elsewhere c (result (work z ss (both a b c))) ss
changed_others z ss (turn a c) = put_elsewhere c (result (work z ss (turn a c))) ss
changed_others z ss (replace a u b c) = put_elsewhere c (result (work z ss (replace a u b c))) ss
changed_others z ss (same a b) = refl
changed_others z ss (count a) = refl
changed_others z ss (verdict a) = refl
changed_others z ss (groups a n) = refl
changed_others z ss tally = refl
changed_others z ss (sheet a) = refl

same_others : (ss : Shelves) (a : Act) → OthersKept ss a ss
same_others ss (set c text) = λ i d. refl
same_others ss (copy a c) = λ i d. refl
same_others ss (clear c) = λ i d. refl
same_others ss (either a b c) = λ i d. refl
same_others ss (both a b c) = λ i d. refl
same_others ss (turn a c) = λ i d. refl
same_others ss (replace a u b c) = λ i d. refl
same_others ss (same a b) = refl
same_others ss (count a) = refl
same_others ss (verdict a) = refl
same_others ss (groups a n) = refl
same_others ss tally = refl
same_others ss (sheet a) = refl

tells_others : (z : Sizes) (ss tt' : Shelves) (c : Act) (before after : List ℕ) (r : Result Answer Fault) → Tells z ss c before r after tt' → OthersKept ss c tt'
tells_others z ss tt' c before after (Ok r) h = subst (OthersKept ss c) (sym h.shelves) (changed_others z ss c)
tells_others z ss tt' c before after (Err f) h = subst (OthersKept ss c) (sym h.shelves) (same_others ss c)

pub others_kept : (z : Sizes) (ss tt' : Shelves) (e : Event) → Happens z ss e tt' → OthersKept ss e.call tt'
others_kept z ss tt' e h = tells_others z ss tt' e.call e.before e.after e.told h
