use Rattle.std.proofs.Common.{◌≡◌, arith}
use Rattle.families.specs.Trees.{Tree}
use Rattle.families.specs.Questions.{sight, off, on, seen, low_at, high_at}
use Rattle.diagrams.specs.Building.{Denotes}
use Rattle.diagrams.specs.Memory.{trees}
use Rattle.diagrams.proofs.Sighted.{seen_by, seen_open, parts_end, parts_open, parts_seen}
use Rattle.diagrams.proofs.frames.sights.sight_parts.Goals as goal
use Rattle.diagrams.proofs.frames.sights.sight_parts.Goals.{in_default-via-in-Some+else-node-away, in_default-via-in_default}

pub returns-in-Some : goal.returns-in-Some
returns-in-Some c = record {
  low = λ t x. seen_open (trees c.args.nodes.now) (parts_open c.args.away (c.in-Some.ensures.opened t x).1 c.if-node-away.true).0;
  high = λ t x. seen_open (trees c.args.nodes.now) (parts_open c.args.away (c.in-Some.ensures.opened t x).1 c.if-node-away.true).1;
}

pub returns-in_default : goal.returns-in_default
returns-in_default c =
    let told : (t : Tree) → Denotes (trees c.args.nodes.now) c.args.f t → (sight (off t c.args.away) ≡ seen (low_at c.args.away t)) × (sight (on t c.args.away) ≡ seen (high_at c.args.away t)) = λ t x.
    elim c.in_default.branch [
      | in_default-via-in-Some+else-node-away w ↦ parts_seen c.args.away (w.in-Some.ensures.opened t x).1 (omega (arith, w.if-node-away.false))
      | in_default-via-in_default w ↦ parts_end t c.args.away (w.in_default.ensures.opened t x)
    ] in
    record {
      low = λ t x. seen_by (told t x).0 (c.parts.ensures.low t x);
      high = λ t x. seen_by (told t x).1 (c.parts.ensures.high t x);
    }
