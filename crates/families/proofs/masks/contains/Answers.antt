use Rattle.std.proofs.Common.{refl, eqb→eq}
use lib.Bits.{bit_and}
use Rattle.families.proofs.Common.{masks, eq_test}
use Rattle.families.proofs.masks.contains.Goals as goal

pub returns : goal.returns
returns c =
    let m = c.args.group in
    let n = c.args.part in
    record {
      bits = refl;
      groups = λ a b. let k = (masks m n a b).contains in ((λ t. k.0 (eqb→eq (bit_and m n) n t)), λ s. eq_test (bit_and m n) n (k.1 s));
    }
