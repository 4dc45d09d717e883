use Rattle.std.proofs.Common.{ℕ, ◌<◌, List, length, Some, None, Option, IsSome, refl, arith}
use Rattle.interning.specs.Model.{held}
use Rattle.interning.specs.Places.{Read}
use Rattle.interning.proofs.Decode.{length_decode}
use Rattle.diagrams.specs.declared.node.Node.{Node}
use Rattle.diagrams.specs.NodeKeys.{node_tree}
use Rattle.diagrams.proofs.nodes.NodeMemory.key.Goals as goal

read_some : (ks : List Node) (i : ℕ) (r : Option Node) → i < length ks → Read ks i r → IsSome r
read_some ks i (Some k) l r = refl
read_some ks i None l r = absurd (omega arith)

pub unwrap-requires : goal.unwrap-requires
unwrap-requires c =
    let m = c.args.self.now in
    read_some (held m.interner) c.args.place c.key_at.result (omega (arith, length_decode node_tree (held m.interner))) c.key_at.ensures
