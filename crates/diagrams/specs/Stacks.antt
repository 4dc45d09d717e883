-- The entries of a stack, the newest first: each goes with a member above that of the entry below it, so that 48 are enough.
use Rattle.std.specs.Prelude.{List, reverse}
use Rattle.arrayvec.specs.ArrayVec.{ArrayVec}

abbrev pub stacked : {T : Type 0} → ArrayVec T → List T
stacked s = reverse s.items
