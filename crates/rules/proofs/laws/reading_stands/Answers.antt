use Rattle.rules.proofs.laws.reading_stands.Goals as goal
use Rattle.rules.proofs.SpellingReads.{reading_spells}

pub returns : goal.returns
returns c = reading_spells
