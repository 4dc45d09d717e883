-- The verdict on a family: some verdict is always right, and nondominated is said exactly of the best.
use Rattle.std.proofs.Common.{◌≡◌, ℕ, ◌≤◌, Bool, true, false, cond, ◌↔◌, sym, refl, ap, ◌∙◌, ap₂, arith}
use Rattle.families.specs.Groups.{holds}
use Rattle.families.specs.Trees.{Tree, groups, is_none}
use Rattle.families.specs.Good.{Good}
use Rattle.families.proofs.Listing.{some_group}
use Rattle.families.proofs.Sights.{none_is}
use Rattle.families.proofs.Laws.{good_less, good_turn}
use Rattle.families.proofs.Verdicts.{meeting_passing, meeting_coterie, meeting_verdict, clash_listed, nondominated_verdict}
use Rattle.calls.specs.declared.answer.Verdict.{Verdict}
use Rattle.calls.specs.declared.answer.Verdict.TheVariants.{Nondominated, Dominated, Clash}
use Rattle.calls.specs.Shelves.{Stand, tree_of}
use Rattle.calls.specs.Works.{turned, unmet, witnesses}
use Rattle.calls.specs.Sheets.{verdict_number, first, Judged}
use Rattle.calls.specs.Law.{Best}
use Rattle.calls.proofs.Stands.{Stands, passes_tree}

-- the number of a verdict, by whether groups are unmet, and whether there are witnesses
abbrev numbered : Bool → Bool → ℕ
numbered a b = cond a (cond b 1 2) 3

numbered_one : (a b : Bool) → numbered a b ≡ 1 → (a ≡ true) × (b ≡ true)
numbered_one true true e = (refl, refl)
numbered_one true false e = absurd (omega arith)
numbered_one false b e = absurd (omega arith)

-- two groups that share no member show a clash
clash_judged : (f : Tree) → Good 1 f → is_none (unmet f) ≡ false → (v : Verdict) × Judged f v
clash_judged f k e =
    let m = some_group 1 (unmet f) (good_less f (turned f) k (good_turn f k)) e in
    let r = (clash_listed f k m.0).0 m.1 in
    (Clash m.0 r.0, (ap (λ a. numbered a (is_none (witnesses f))) e, record { one = r.1; other = r.2; unmet = r.3 }))

pub some_judged : (f : Tree) → Good 1 f → (v : Verdict) × Judged f v
some_judged f k = by_tests (is_none (unmet f)) (is_none (witnesses f)) refl refl
  where
    by_tests : (a b : Bool) → is_none (unmet f) ≡ a → is_none (witnesses f) ≡ b → (v : Verdict) × Judged f v
    by_tests true true p q = (Nondominated, ap₂ numbered p q)
    by_tests true false p q = (Dominated (first (groups (witnesses f))), (ap₂ numbered p q, refl))
    by_tests false b p q = clash_judged f k p

-- the verdict is nondominated exactly where its number is 1
judged_one : (f : Tree) (v : Verdict) → Judged f v → verdict_number f ≡ 1 → v ≡ Nondominated
judged_one f Nondominated j e = refl
judged_one f (Dominated w) j e = absurd (omega (arith, j.0))
judged_one f (Clash m k) j e = absurd (omega (arith, j.0))

one_judged : (f : Tree) (v : Verdict) → Judged f v → v ≡ Nondominated → verdict_number f ≡ 1
one_judged f Nondominated j e = j
one_judged f (Dominated w) j e = let z : ◌≡◌ {A = ℕ} 0 1 = cc in absurd (omega arith)
one_judged f (Clash m k) j e = let z : ◌≡◌ {A = ℕ} 0 1 = cc in absurd (omega arith)

module _ (n : ℕ) (some : 1 ≤ n) (few : n ≤ 48) (s : Stand) (k : Stands n s) where
  one_best : verdict_number (tree_of s) ≡ 1 → Best n s
  one_best e =
      let f = tree_of s in
      let good = k.proper.good in
      let p = numbered_one (is_none (unmet f)) (is_none (witnesses f)) e in
      let meet = (meeting_verdict f good).1 (none_is (unmet f) p.0) in
      record {
        meeting = λ m l gm gl pm pl. (meeting_passing f good).0 meet m l gm gl (sym (passes_tree s (holds m)) ∙ pm) (sym (passes_tree s (holds l)) ∙ pl);
        undominated = (nondominated_verdict n some few f good ((meeting_coterie n f good k.upto).0 meet)).1 (none_is (witnesses f) p.1);
      }

  best_one : Best n s → verdict_number (tree_of s) ≡ 1
  best_one b =
      let f = tree_of s in
      let good = k.proper.good in
      let meet = (meeting_passing f good).1 (λ m l gm gl pm pl. b.meeting m l gm gl (passes_tree s (holds m) ∙ pm) (passes_tree s (holds l) ∙ pl)) in
      let u = (meeting_verdict f good).0 meet in
      let w = (nondominated_verdict n some few f good ((meeting_coterie n f good k.upto).0 meet)).0 b.undominated in
      ap₂ (λ x y. numbered (is_none x) (is_none y)) u w

  -- the number of the verdict is 1 exactly for the best
  pub number_best : (verdict_number (tree_of s) ≡ 1) ↔ Best n s
  number_best = (one_best, best_one)

  pub nondominated_best : (v : Verdict) → Judged (tree_of s) v → (v ≡ Nondominated) ↔ Best n s
  nondominated_best v j = ((λ e. one_best (one_judged (tree_of s) v j e)), λ b. judged_one (tree_of s) v j (best_one b))
