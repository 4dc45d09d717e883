-- The life of a bench: its opening, and any calls after it, let in or denied.
use Rattle.std.specs.Prelude.{◌≡◌, List, [], ◌∷◌, Ok, Err, Result}
use Rattle.calls.specs.declared.answer.Answer.{Answer}
use Rattle.calls.specs.declared.answer.Answer.TheVariants.{Done, Same, Count, Verdict as Judging, Groups, Tally, Sheet}
use Rattle.calls.specs.declared.answer.Verdict.TheVariants.{Nondominated, Dominated, Clash}
use Rattle.calls.specs.declared.faults.Fault.{Fault}
use Rattle.calls.specs.Shelves.{Sizes, Allowed, Shelves, fresh}
use Rattle.calls.specs.Events.{Event, Happens}

-- a bench of the sizes z has had these events, the newest first, and its shelves are now so
pub data Life : Sizes → List Event → Shelves → Type 0 where
  opened : {z : Sizes} → Allowed z → Life z [] fresh
  goes_on : {z : Sizes} {es : List Event} {ss tt : Shelves} {e : Event} → Life z es ss → Happens z ss e tt → Life z (e ∷ es) tt

-- from the shelves ss further events, the oldest first, lead to the shelves tt
pub data Further : Sizes → Shelves → List Event → Shelves → Type 0 where
  at_end : {z : Sizes} {ss : Shelves} → Further z ss [] ss
  then_on : {z : Sizes} {ss mid tt : Shelves} {e : Event} {es : List Event} → Happens z ss e mid → Further z mid es tt → Further z ss (e ∷ es) tt

-- the same calls with the same arguments, buffer's bytes among them
abbrev pub SameCalls : List Event → List Event → Type 0
SameCalls [] [] = Unit {0}
SameCalls [] (f ∷ fs) = ⊥
SameCalls (e ∷ es) [] = ⊥
SameCalls (e ∷ es) (f ∷ fs) = (e.call ≡ f.call) × (e.before ≡ f.before) × SameCalls es fs

-- an answer without what is left open: the number of a tally, the pair of a clash
abbrev pub fixed_part : Result Answer Fault → Result Answer Fault
fixed_part (Err f) = Err f
fixed_part (Ok Done) = Ok Done
fixed_part (Ok (Same b)) = Ok (Same b)
fixed_part (Ok (Count n)) = Ok (Count n)
fixed_part (Ok (Judging Nondominated)) = Ok (Judging Nondominated)
fixed_part (Ok (Judging (Dominated w))) = Ok (Judging (Dominated w))
fixed_part (Ok (Judging (Clash m k))) = Ok (Judging (Clash 0 0))
fixed_part (Ok (Groups n)) = Ok (Groups n)
fixed_part (Ok (Tally n)) = Ok (Tally 0)
fixed_part (Ok (Sheet n)) = Ok (Sheet n)

-- the same answers, tally and clash pair aside, and the same bytes afterwards
abbrev pub SameAnswers : List Event → List Event → Type 0
SameAnswers [] [] = Unit {0}
SameAnswers [] (f ∷ fs) = ⊥
SameAnswers (e ∷ es) [] = ⊥
SameAnswers (e ∷ es) (f ∷ fs) = (fixed_part e.told ≡ fixed_part f.told) × (e.after ≡ f.after) × SameAnswers es fs

-- every further list of calls is answered alike
abbrev pub AnswerAlike : Sizes → Shelves → Shelves → Type 0
AnswerAlike z ss tt = (es fs : List Event) (ss' tt' : Shelves) → Further z ss es ss' → Further z tt fs tt' → SameCalls es fs → SameAnswers es fs
