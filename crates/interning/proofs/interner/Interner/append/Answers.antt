use Rattle.std.proofs.Common.{◌+◌, ◌%◌, ◌<◌, ◌≤◌, length, sym, refl, ap, subst, mod-lt, arith, rules}
use Rattle.interning.specs.Chain.{room}
use Rattle.interning.specs.Model.{held, capacity}
use Rattle.interning.proofs.Interned.{placed_new}
use Rattle.interning.proofs.Sound.{linked_out, held_used}
use Rattle.interning.proofs.Writes.{written}
use Rattle.interning.proofs.interner.Interner.append.Goals as goal

pub returns : goal.returns
returns g c =
    let i = c.args.self.now in
    let xs = i.slots.now in
    let n = length xs in
    let l : c.hash.result % n < n = mod-lt c.hash.result (omega arith) in
    let w = written xs i.used (omega arith) c.args.key (c.hash.result % n) l c.replace-older.new.dest c.replace-older.result (search rules) c.index-slots-bucket.result c.index-slots-place.result c.replace-older.ensures.value in
    record {
      placed = placed_new (capacity i) (held i) c.args.key i.used _ w.1 (sym (held_used i)) c.requires.free c.requires.absent;
      slots = record { capacity = ap room w.0; named = refl };
    }

pub invariant_of-self : goal.invariant_of-self
invariant_of-self g c =
    let i = c.args.self.now in
    let xs = i.slots.now in
    let n = length xs in
    let l : c.hash.result % n < n = mod-lt c.hash.result (omega arith) in
    let w = written xs i.used (omega arith) c.args.key (c.hash.result % n) l c.replace-older.new.dest c.replace-older.result (search rules) c.index-slots-bucket.result c.index-slots-place.result c.replace-older.ensures.value in
    record {
      within = subst (λ m. i.used + 1 ≤ room m) (sym w.0) (omega arith);
      linked = ∣ w.2 g.K.Key.mark (ap (λ h. h % n) (sym c.hash.ensures)) (linked_out i.linked) c.requires.absent ∣₁;
    }
