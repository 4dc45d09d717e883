use Rattle.std.proofs.Common.{◌≡◌, ◌<◌, sym, ap, ◌∙◌, subst, arith, rules}
use Rattle.interning.specs.Model.{held}
use Rattle.interning.specs.Places.{Sought}
use Rattle.interning.proofs.Walk.{Lawful}
use Rattle.interning.proofs.Sound.{linked_out}
use Rattle.interning.proofs.Slots.{step_bound, steps, found, missing}
use Rattle.interning.proofs.interner.Interner.walk.Given.{Over}
use Rattle.interning.proofs.interner.Interner.walk.Goals as goal

-- The lookup uses these laws, and nothing else of a key.
lawful : (g : Over) → Lawful g.K.Key.mark g.K.PartialEq.eq
lawful g = record { exact = λ x y. (g.met.K.Key.sound x y, λ e. ap (g.K.PartialEq.eq x) (sym e) ∙ g.met.K.Eq.laws.refl x); marked = g.met.K.Key.marked }

pub returns-in_err-place : goal.returns-in_err-place
returns-in_err-place g c =
    let i = c.args.self.now in
    let over : c.loop.cursor.past ≡ 0 = search rules in
    subst (Sought (held i) c.args.key) (sym c.from_residual.ensures)
    (missing (lawful g) (linked_out i.linked) (omega (arith, i.within)) c.args.key c.loop.cursor.past over c.loop.invariant.seeks)

pub returns-then-eq : goal.returns-then-eq
returns-then-eq g c =
    let i = c.args.self.now in
    let equal = g.K.PartialEq.eq in
    let k = c.args.key in
    let s = c.index-slots-place in
    found (lawful g) (linked_out i.linked) (omega (arith, i.within)) k c.in_ok-place.place s.result
    (omega (arith, c.in_ok-place.ensures, c.loop.invariant.left)) s.is (sym {b = equal s.result.key k} c.if-eq.ensures)

pub loop-preserved : goal.loop-preserved
loop-preserved g c =
    let i = c.args.self.now in
    let linked = linked_out i.linked in
    let equal = g.K.PartialEq.eq in
    let k = c.args.key in
    let s = c.index-slots-place in
    let q = c.in_ok-place.place in
    let l : q < i.used = omega (arith, c.in_ok-place.ensures, c.loop.invariant.left) in
    record {
      left = omega (arith, c.in_ok-place.ensures, c.loop.invariant.left, step_bound equal linked k q s.result l s.is);
      seeks = steps equal linked k c.loop.cursor.past q s.result l (omega (arith, i.within)) s.is (sym {b = equal s.result.key k} c.if-eq.ensures) (sym c.in_ok-place.ensures) c.loop.invariant.seeks;
    }

pub returns : goal.returns
returns g c =
    let i = c.args.self.now in
    missing (lawful g) (linked_out i.linked) (omega (arith, i.within)) c.args.key c.loop.cursor.past
    (omega (arith, c.loop.invariant.left)) c.loop.invariant.seeks
