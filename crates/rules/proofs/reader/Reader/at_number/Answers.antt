use Rattle.std.proofs.Common.{◌≡◌, ℕ, Some, Ok, Option, Result, sym, refl, ap, ◌∙◌}
use Rattle.std.specs.Result.{result_ok}
use Rattle.rules.specs.declared.faults.RuleFault.{RuleFault}
use Rattle.rules.specs.Terms.{member}
use Rattle.rules.proofs.Steps.{number_crowded, number_joined}
use Rattle.rules.proofs.reader.Reader.at_number.Goals as goal

-- the number that was found
found : {r : Result ℕ RuleFault} {o p : Option ℕ} {m : ℕ} → r ≡ Ok m → o ≡ result_ok r → o ≡ p → Some m ≡ p
found is part e = ap result_ok (sym is) ∙ sym part ∙ e

pub returns-then-is_crowded-clause-steps : goal.returns-then-is_crowded-clause-steps
returns-then-is_crowded-clause-steps c fs at = number_crowded _ _ _ fs at c.args.place c.in_ok-member.member c.args.value (found c.in_ok-member.was c.ok_or.ensures.ok_part c.in_range.ensures) (sym c.if-is_crowded.ensures)

pub returns-clause-steps : goal.returns-clause-steps
returns-clause-steps c fs at =
    number_joined _ _ _ fs at c.args.place c.in_ok-member.member c.args.value (found c.in_ok-member.was c.ok_or.ensures.ok_part c.in_range.ensures) _ c.put-item.result c.join.result _ (sym c.if-is_crowded.ensures) (c.put-item.ensures (member c.in_ok-member.member) (λ _. (tt, refl))) c.join.ensures

pub returns-clause-same : goal.returns-clause-same
returns-clause-same c = record { members = refl; memory = refl; room = (c.put-item.ensures (member c.in_ok-member.member) (λ _. (tt, refl))).adds.room }
