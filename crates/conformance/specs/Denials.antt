-- What is said of a rule with a fault.
use Rattle.rules.specs.declared.faults.RuleFault.{RuleFault}
use Rattle.rules.specs.Faults.{number, place}
use Rattle.conformance.specs.declared.verdicts.Denial.{Denial}

-- the fault's number and place
abbrev pub denial : RuleFault → Denial
denial fault = record { number = number fault; place = place fault }
