use Rattle.families.proofs.theorems.script_leads_stands.Goals as goal
use Rattle.families.proofs.Scripts.{script_leads}

pub returns : goal.returns
returns c = script_leads
