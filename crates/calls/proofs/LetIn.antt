-- A call is let in exactly where every question before it is answered yes.
use Rattle.std.proofs.Common.{◌≡◌, ℕ, ◌<◌, ◌≤◌, Bool, true, false, ltb, leb, List, [], ◌∷◌, is_some, Some, None, Option, refl, arith}
use Rattle.std.specs.List.{AllByRecursion}
use Rattle.std.proofs.lemmas.Bool.{and_parts, leb-true, ltb-true, false≢true}
use Rattle.calls.specs.declared.faults.Fault.{Fault}
use Rattle.calls.specs.declared.faults.Fault.TheVariants.{Shelf, Empty, Buffer}
use Rattle.calls.specs.Shelves.{Sizes, Shelves, on_shelf}
use Rattle.calls.specs.Acts.{Act, parts}
use Rattle.calls.specs.Works.{work}
use Rattle.calls.specs.Denials.{first_no, unless, all_shelves, all_held, member_no, text_no, nodes_no, bytes_needed, denial}

-- the questions before a call
abbrev pub questions : Sizes → Shelves → Act → ℕ → List (Option Fault)
questions z ss a len =
    unless (all_shelves (parts a).named) Shelf ∷ unless (all_held ss (parts a).sources) Empty ∷ member_no z.members (parts a).member ∷ text_no z (parts a).text
    ∷ nodes_no z ss (work z ss a) ∷ unless (leb (bytes_needed ss a) len) Buffer ∷ []

pub some_none : {A : Type 0} (x : A) → Some x ≡ None → ⊥
some_none x e = let z : ◌≡◌ {A = ℕ} 0 1 = cc in omega arith

-- a question is answered yes
abbrev pub Yes : Option Fault → Type 0
Yes o = o ≡ None

pub each_yes : (os : List (Option Fault)) → first_no os ≡ None → AllByRecursion Yes os
each_yes [] e = tt
each_yes (None ∷ os) e = (refl, each_yes os e)
each_yes (Some f ∷ os) e = absurd (some_none f e)

pub none_no : (os : List (Option Fault)) → AllByRecursion Yes os → first_no os ≡ None
none_no [] a = refl
none_no (None ∷ os) a = none_no os a.1
none_no (Some f ∷ os) a = absurd (some_none f a.0)

pub unless_yes : (b : Bool) (f : Fault) → Yes (unless b f) → b ≡ true
unless_yes true f e = refl
unless_yes false f e = absurd (some_none f e)

pub yes_unless : (b : Bool) (f : Fault) → b ≡ true → Yes (unless b f)
yes_unless true f e = refl
yes_unless false f e = absurd (false≢true e)

all_below : (is : List ℕ) → all_shelves is ≡ true → AllByRecursion (λ i. i < 16) is
all_below [] e = tt
all_below (i ∷ is) e = let p = and_parts (ltb i 16) (all_shelves is) e in (ltb-true i 16 p.0, all_below is p.1)

all_some : (ss : Shelves) (is : List ℕ) → all_held ss is ≡ true → AllByRecursion (λ i. is_some (on_shelf ss i) ≡ true) is
all_some ss [] e = tt
all_some ss (i ∷ is) e = let p = and_parts (is_some (on_shelf ss i)) (all_held ss is) e in (p.0, all_some ss is p.1)

-- shelves that are named are there, those that are read hold something, and the buffer has the bytes that are needed
module _ (z : Sizes) (ss : Shelves) (a : Act) (len : ℕ) (e : denial z ss a len ≡ None) where
  pub named_below : AllByRecursion (λ i. i < 16) (parts a).named
  named_below = all_below (parts a).named (unless_yes (all_shelves (parts a).named) Shelf (each_yes (questions z ss a len) e).0)

  pub sources_held : AllByRecursion (λ i. is_some (on_shelf ss i) ≡ true) (parts a).sources
  sources_held = all_some ss (parts a).sources (unless_yes (all_held ss (parts a).sources) Empty (each_yes (questions z ss a len) e).1.0)

  pub text_read : Yes (text_no z (parts a).text)
  text_read = (each_yes (questions z ss a len) e).1.1.1.0

  pub bytes_fit : bytes_needed ss a ≤ len
  bytes_fit = leb-true (bytes_needed ss a) len (unless_yes (leb (bytes_needed ss a) len) Buffer (each_yes (questions z ss a len) e).1.1.1.1.1.0)
