use Rattle.std.proofs.Common.{◌≡◌, ℕ, Bool, List, ◌∷◌, length, sym, ap, ◌∙◌, subst}
use Rattle.rules.specs.declared.nest.OpenList.{OpenList}
use Rattle.rules.specs.Building.{Held}
use Rattle.rules.specs.Following.{AtItem}
use Rattle.rules.specs.Reading.{Frame, fits}
use Rattle.rules.proofs.Steps.{closed_unfit, closed_whole, outer_room}
use Rattle.rules.proofs.reader.Reader.at_close.Goals as goal

-- the innermost list is the one that was taken out
taken_out : (n : ℕ) (h : Held) (ls ms : List OpenList) (o : OpenList) (fs : List Frame) → ls ≡ o ∷ ms → AtItem n h ls fs → AtItem n h (o ∷ ms) fs
taken_out n h ls ms o fs e = subst (λ xs. AtItem n h xs fs) e

-- whether its items fit, as it was asked
asked_fit : (o : OpenList) (m : ℕ) (b : Bool) → m ≡ length o.places.items → b ≡ fits o.head m → fits o.head (length o.places.items) ≡ b
asked_fit o m b e f = ap (fits o.head) (sym e) ∙ sym f

pub returns-then-not-fits-clause-steps : goal.returns-then-not-fits-clause-steps
returns-then-not-fits-clause-steps c fs at =
    closed_unfit _ _ c.in-Some.list _ c.args.place fs (taken_out _ _ _ _ _ fs c.in-Some.ensures.taken at) (sym c.if-is_empty.ensures) (asked_fit c.in-Some.list _ _ c.len.ensures.value c.if-not-fits.ensures)

pub join-requires : goal.join-requires
join-requires c = outer_room _ _ c.in-Some.list _ c.requires.0 (taken_out _ _ _ _ _ _ c.in-Some.ensures.taken c.requires.1)

pub returns-clause-steps : goal.returns-clause-steps
returns-clause-steps c fs at =
    closed_whole _ _ c.in-Some.list _ _ c.args.place fs c.expand-item.result c.join.result _ (taken_out _ _ _ _ _ fs c.in-Some.ensures.taken at) (sym c.if-is_empty.ensures) (asked_fit c.in-Some.list _ _ c.len.ensures.value c.if-not-fits.ensures)
    c.expand-item.ensures c.join.ensures
