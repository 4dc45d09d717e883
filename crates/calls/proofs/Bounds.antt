-- Bounds on the members of families.
use Rattle.std.proofs.Common.{◌≡◌, ℕ, ◌≤◌, true, false, ◌||◌, eqb, ⊎_elim, arith}
use Rattle.std.proofs.lemmas.Bool.{eqb-true, or_cases, false≢true}
use Rattle.families.specs.Trees.{Tree, alone}
use Rattle.families.specs.Good.{occurs, Proper, Upto}
use Rattle.families.specs.Questions as ask
use Rattle.families.specs.Outcomes.{answer}
use Rattle.families.specs.Replacing.{replaced}
use Rattle.families.proofs.Members.{upto_kept}
use Rattle.families.proofs.Laws.{good_both, good_off, good_on}

-- no member of either operand is above n
pub either_upto : (n : ℕ) (f g : Tree) → Upto n f → Upto n g → (v : ℕ) → (occurs f v || occurs g v) ≡ true → v ≤ n
either_upto n f g p q v e = ⊎_elim (p v) (q v) (or_cases (occurs f v) (occurs g v) e)

pub alone_upto : (n v : ℕ) → v ≤ n → Upto n (alone v)
alone_upto n v p u e = ⊎_elim (λ h. let q = eqb-true u v h in omega arith) (λ h. absurd (false≢true h)) (or_cases (eqb u v) (false || false) e)

-- a member replaced by a family
module _ (n : ℕ) (f g : Tree) (pf : Proper f) (pg : Proper g) (uf : Upto n f) (ug : Upto n g) where
  pub replaced_upto : (u : ℕ) → Upto n (replaced f u g)
  replaced_upto u =
      let off = upto_kept n (ask.off f u) pf.good uf in
      let on = upto_kept n (ask.on f u) pf.good uf in
      let off-good = good_off f pf.good u in
      let on-good = good_on f pf.good u in
      let joined = upto_kept n (ask.both (answer (ask.on f u)) g) (on-good, pg.good) (either_upto n (answer (ask.on f u)) g on ug) in
      upto_kept n (ask.either (answer (ask.off f u)) (answer (ask.both (answer (ask.on f u)) g))) (off-good, good_both (answer (ask.on f u)) g on-good pg.good)
      (either_upto n (answer (ask.off f u)) (answer (ask.both (answer (ask.on f u)) g)) off joined)
