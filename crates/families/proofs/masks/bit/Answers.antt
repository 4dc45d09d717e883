use Rattle.std.proofs.Common.{◌-◌, ◌^◌, ◌<◌, leb, Some, sym, ap, ◌∙◌, mod-eq_of_lt, one-mul, arith}
use Rattle.std.proofs.lemmas.Nat.{pow_below}
use Rattle.std.proofs.lemmas.Bool.{and_from, cond-true, le-leb}
use Rattle.families.specs.Groups.{weight, is_member}
use Rattle.families.proofs.masks.bit.Goals as goal

pub returns-then-member-le48 : goal.returns-then-member-le48
unfolding weight
returns-then-member-le48 c =
    let v = c.args.member in
    let h : 48 - v < 64 = omega arith in
    let p = pow_below (48 - v) 64 h in
    ap Some (mod-eq_of_lt (omega arith) ∙ one-mul (2 ^ (48 - v)))
    ∙ sym (cond-true (is_member v) _ _ (and_from (leb 1 v) (leb v 48) (le-leb 1 v (omega arith)) (le-leb v 48 (omega arith))))
