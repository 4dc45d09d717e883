-- The groups without a member, and those with it, it taken out.
use Rattle.std.proofs.Common.{◌≡◌, ℕ, suc, ◌+◌, ◌-◌, ◌<◌, ◌≤◌, Bool, true, false, not, ◌&&◌, eqb, List, ◌++◌, map, filter, sym, ap, ◌∙◌, ⊎_elim, arith}
use Rattle.std.proofs.lemmas.Bool.{both_ways, cases_eq, cases_lt, ne_eqb, and_parts, and_from}
use Rattle.std.proofs.ByRecursion.{All-weaker, kept_by_passes}
use Rattle.families.specs.Sets.{has, Inside}
use Rattle.families.specs.Groups.{weight, holds, Group}
use Rattle.families.specs.Trees.{Tree, build, passes, groups, lists}
use Rattle.families.specs.Good.{Apart, Fits, Good}
use Rattle.families.specs.Meanings.{Off, On}
use Rattle.families.proofs.Bools.{refute}
use Rattle.families.proofs.Weights.{holds_below, holds_later}
use Rattle.families.proofs.Numbers.{holds_drop}
use Rattle.families.proofs.Listing.{all_each, each_all, has_map, map_has, lists_group}
use Rattle.families.proofs.Passing.{lists_passes, passes_lists}
use Rattle.families.proofs.Kept.{has_kept, kept_same, map_same, map_map, map_append}
use Rattle.families.proofs.Parts.{build_listed, kept_node, build_good, Splits, apart_part}

pub lists_off : {b u : ℕ} (f r : Tree) → Off b f u r → (n : ℕ) → lists r n ≡ (lists f n && not (holds n u))
lists_off {u = u} f r k n = ap (λ z. has z n) k.listed ∙ has_kept (λ m. not (holds m u)) (groups f) n

pub off_lists : {b u : ℕ} (f r : Tree) → Off b f u r → (n : ℕ) → lists r n ≡ true → lists f n ≡ true
off_lists {u = u} f r k n e = (and_parts (lists f n) (not (holds n u)) (sym (lists_off f r k n) ∙ e)).0

-- a group of on is a group with u, u taken out
pub on_lists : {b u : ℕ} (f r : Tree) → On b f u r → (n : ℕ) → lists r n ≡ true → (m : ℕ) × (lists f m ≡ true) × (holds m u ≡ true) × (n ≡ m - weight u)
on_lists {u = u} f r k n e =
    let p = has_map (λ m. m - weight u) (filter (λ m. holds m u) (groups f)) n (ap (λ z. has z n) (sym k.listed) ∙ e) in
    let q = and_parts (lists f p.0) (holds p.0 u) (sym (has_kept (λ m. holds m u) (groups f) p.0) ∙ p.1) in
    (p.0, q.0, q.1, p.2)

pub lists_on : {b u : ℕ} (f r : Tree) → On b f u r → (m : ℕ) → lists f m ≡ true → holds m u ≡ true → lists r (m - weight u) ≡ true
lists_on {u = u} f r k m e h = ap (λ z. has z (m - weight u)) k.listed
    ∙ map_has (λ n. n - weight u) (filter (λ n. holds n u) (groups f)) m (has_kept (λ n. holds n u) (groups f) m ∙ and_from (lists f m) (holds m u) e h)

-- a weight before u changes nothing for u
kept_later : (p : Bool → Bool) (v u : ℕ) → v < u → (xs : List ℕ) → filter (λ n. p (holds (weight v + n) u)) xs ≡ filter (λ n. p (holds n u)) xs
kept_later p v u h xs = kept_same (λ n. p (holds (weight v + n) u)) (λ n. p (holds n u)) xs (each_all (λ n. p (holds (weight v + n) u) ≡ p (holds n u)) xs (λ n e. ap p (holds_later n v u h)))

pub off_step : {b v u : ℕ} {f f0 f1 l h : Tree} → Fits b v → v < u → Splits v f f0 f1 → Off (suc v) f0 u l → Off (suc v) f1 u h → Off b f u (build v l h)
off_step {b} {v} {u} {f} {f0} {f1} {l} {h} p q sf kl kh = record {
  good = build_good b v l h p kl.good kh.good (apart_part (suc v) f0 f1 l h sf.low kl.good sf.apart (off_lists f0 l kl) (off_lists f1 h kh));
  listed = build_listed v l h
      ∙ ap (λ z. map (λ n. weight v + n) z ++ groups l) (kh.listed ∙ sym (kept_later not v u q (groups f1)))
      ∙ ap (λ z. map (λ n. weight v + n) (filter (λ n. not (holds (weight v + n) u)) (groups f1)) ++ z) kl.listed
      ∙ sym (kept_node (λ n. not (holds n u)) v f0 f1)
      ∙ ap (filter (λ n. not (holds n u))) (sym sf.listed);
}

holds_least : (n u : ℕ) → holds n u ≡ true → weight u ≤ n
holds_least n u h = ⊎_elim (λ l. absurd (both_ways (holds n u) (holds_below n u l) h)) (λ l. l) (cases_lt n (weight u))

-- to take out u and to put in an earlier member go in any order
taken_later : (w u : ℕ) (xs : List ℕ) → map (λ n. w + n) (map (λ n. n - weight u) (filter (λ n. holds n u) xs)) ≡ map (λ n. n - weight u) (map (λ n. w + n) (filter (λ n. holds n u) xs))
taken_later w u xs =
    let ks = filter (λ n. holds n u) xs in
    map_map (λ n. w + n) (λ n. n - weight u) ks
    ∙ map_same (λ n. w + (n - weight u)) (λ n. (w + n) - weight u) ks
    (All-weaker (λ n. holds n u ≡ true) (λ n. w + (n - weight u) ≡ (w + n) - weight u) (λ n e. let l = holds_least n u e in omega arith) ks (kept_by_passes (λ n. holds n u) xs))
    ∙ sym (map_map (λ n. n - weight u) (λ n. w + n) ks)

-- what is inside after u is taken out of both is inside before
drop_inside : (m n u : ℕ) → Group m → Group n → holds m u ≡ true → holds n u ≡ true → Inside (holds (m - weight u)) (holds (n - weight u)) → Inside (holds m) (holds n)
drop_inside m n u p q h k s v e = ⊎_elim
    (λ d. ap (holds n) d ∙ k)
    (λ d.
    let x = ne_eqb v u d in
    let a : holds (m - weight u) v ≡ true = (holds_drop m u p h).1 v ∙ ap (λ z. not z && holds m v) x ∙ e in
    (and_parts (not (eqb v u)) (holds n v) (sym ((holds_drop n u q k).1 v) ∙ s v a)).1)
    (cases_eq v u)

on_apart : (b u : ℕ) (f0 f1 l h : Tree) → Good b f0 → Good b f1 → Apart f0 f1 → On b f0 u l → On b f1 u h → Apart l h
on_apart b u f0 f1 l h k0 k1 a kl kh = each_all (λ n. passes l (holds n) ≡ false) (groups h) (λ n e. refute (passes l (holds n)) (λ t.
    let y = on_lists f1 h kh n e in
    let r = passes_lists b l (holds n) kl.good t in
    let x = on_lists f0 l kl r.0 r.1 in
    let s : Inside (holds (x.0 - weight u)) (holds (y.0 - weight u)) = λ v d. ap (λ z. holds z v) (sym y.3) ∙ r.2 v (ap (λ z. holds z v) x.3 ∙ d) in
    let i = drop_inside x.0 y.0 u (lists_group b f0 x.0 k0 x.1) (lists_group b f1 y.0 k1 y.1) x.2 y.2 s in
    both_ways (passes f0 (holds y.0)) (all_each (λ m. passes f0 (holds m) ≡ false) (groups f1) a y.0 y.1) (lists_passes b f0 x.0 (holds y.0) k0 x.1 i)))

pub on_step : {b v u : ℕ} {f f0 f1 l h : Tree} → Fits b v → v < u → Splits v f f0 f1 → On (suc v) f0 u l → On (suc v) f1 u h → On b f u (build v l h)
on_step {b} {v} {u} {f} {f0} {f1} {l} {h} p q sf kl kh =
    let out = map (λ n. n - weight u) in
    let put = map (λ n. weight v + n) in
    record {
      good = build_good b v l h p kl.good kh.good (on_apart (suc v) u f0 f1 l h sf.low sf.high sf.apart kl kh);
      listed = build_listed v l h
          ∙ ap (λ z. put z ++ groups l) kh.listed
          ∙ ap (λ z. put (out (filter (λ n. holds n u) (groups f1))) ++ z) kl.listed
          ∙ ap (λ z. z ++ out (filter (λ n. holds n u) (groups f0))) (taken_later (weight v) u (groups f1))
          ∙ ap (λ z. out (put z) ++ out (filter (λ n. holds n u) (groups f0))) (sym (kept_later (λ b. b) v u q (groups f1)))
          ∙ sym (map_append (λ n. n - weight u) (put (filter (λ n. holds (weight v + n) u) (groups f1))) (filter (λ n. holds n u) (groups f0)))
          ∙ ap out (sym (kept_node (λ n. holds n u) v f0 f1) ∙ ap (filter (λ n. holds n u)) (sym sf.listed));
    }
