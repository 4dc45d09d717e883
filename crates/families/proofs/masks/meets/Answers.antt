use Rattle.std.proofs.Common.{eqb, refl, eqb→eq, T_not}
use lib.Bits.{bit_and}
use lib.Dec.{not_T}
use Rattle.families.proofs.Common.{masks, eq_test}
use Rattle.families.proofs.masks.meets.Goals as goal

pub returns : goal.returns
returns c =
    let m = c.args.group in
    let n = c.args.other in
    record {
      bits = refl;
      groups = λ a b. let k = (masks m n a b).meets in ((λ t. k.0 (λ e. T_not (eqb (bit_and m n) 0) t (eq_test (bit_and m n) 0 e))), λ s. not_T (eqb (bit_and m n) 0) (λ t. k.1 s (eqb→eq (bit_and m n) 0 t)));
    }
