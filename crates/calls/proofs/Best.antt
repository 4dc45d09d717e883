-- Nondominated is said exactly of the best.
use Rattle.std.proofs.Common.{◌≡◌, ℕ, ◌↔◌, List, length, Ok, subst}
use Rattle.families.specs.Trees.{Tree}
use Rattle.calls.specs.declared.answer.Answer.TheVariants.{Verdict as Judging}
use Rattle.calls.specs.declared.answer.Verdict.{Verdict}
use Rattle.calls.specs.declared.answer.Verdict.TheVariants.{Nondominated}
use Rattle.calls.specs.Shelves.{Sizes, Shelves, on_shelf, tree_on}
use Rattle.calls.specs.Acts.{verdict}
use Rattle.calls.specs.Sheets.{Judged}
use Rattle.calls.specs.Events.{Event, Happens, LetIn}
use Rattle.calls.specs.Lives.{Life}
use Rattle.calls.specs.Law.{Best}
use Rattle.calls.proofs.Sources.{sources_stand}
use Rattle.calls.proofs.Stocking.{life_allowed, life_stocked}
use Rattle.calls.proofs.Denying.{answer_let_in}
use Rattle.calls.proofs.Judging.{nondominated_best}

-- what the verdict told is right of the shelf's tree
said_judged : (f : Tree) (v : Verdict) → ((w : Verdict) × (Judging v ≡ Judging w) × Judged f w) → Judged f v
said_judged f v s = let same : s.0 ≡ v = let e = s.1 in cc in subst (Judged f) same s.2

pub verdict_best : (z : Sizes) (es : List Event) (ss tt' : Shelves) (e : Event) (i : ℕ) (v : Verdict) → Life z es ss → Happens z ss e tt' → e.call ≡ verdict i → e.told ≡ Ok (Judging v)
    → (v ≡ Nondominated) ↔ Best z.members (on_shelf ss i)
verdict_best z es ss tt' e i v l h called told =
    let k = subst (λ c. LetIn z ss c e.before (Judging v) e.after tt') called (answer_let_in z ss tt' e h (Judging v) told) in
    let f = (sources_stand z ss (verdict i) (length e.before) (life_stocked l) k.no_denial).0 in
    nondominated_best z.members (life_allowed l).some_member (life_allowed l).few_members (on_shelf ss i) f v (said_judged (tree_on ss i) v k.says)
