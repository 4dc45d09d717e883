-- A diagram is told by what it is. Assumes nothing.
use Rattle.std.proofs.Common.{◌≡◌, ℕ, zero, suc, sym, refl, ap, ◌∙◌}
use Rattle.memos.specs.declared.diagram.Diagram.{Diagram}
use Rattle.memos.specs.declared.diagram.View.{View}
use Rattle.memos.specs.declared.diagram.View.TheVariants.{None, Always, Node}
use Rattle.memos.specs.Diagrams.{named, seen}

number : View → ℕ
number None = zero
number Always = suc zero
number (Node place) = suc (suc place)

number_named : (n : ℕ) → number (named n) ≡ n
unfolding number
number_named zero = refl
number_named (suc zero) = refl
number_named (suc (suc place)) = refl

-- two diagrams that are seen alike are one
pub seen_alike : (d e : Diagram) → seen d ≡ seen e → d ≡ e
seen_alike d e alike =
    let same : d.code ≡ e.code = sym (number_named d.code) ∙ ap number alike ∙ number_named e.code in
    λ i. record { code = same i }
