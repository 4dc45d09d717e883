-- Keys of terms can be told by the terms that they stand for.
use Rattle.std.proofs.Common.{◌≡◌, ℕ, ◌≤◌, List, ◌++◌, length, get_or, sym, refl, subst, ⊎_elim, arith}
use mathlib.Core.HLevel.{×_prop}
use mathlib.Core.Logic.{∥∥₁_elim}
use native.Mathlib.Bridge.{le_prop}
use Rattle.std.proofs.lemmas.List.{get_or_append_left}
use Rattle.interning.specs.Decode.{Readable, Rooted}
use Rattle.interning.specs.Interned.{Appended, Placed}
use Rattle.interning.specs.Places.{Apart}
use Rattle.interning.proofs.Decode.{rooted_push}
use Rattle.interning.proofs.Places.{apart_told}
use Rattle.rules.specs.declared.terms.TermKey.{TermKey}
use Rattle.rules.specs.declared.terms.TermKey.TheVariants.{Member, Both, Either}
use Rattle.rules.specs.TermKeys.{NamesBelow, tree}
use Rattle.rules.specs.Terms.{Term, both, either, blank}

names_prop : (n : ℕ) (k : TermKey) → IsProp (NamesBelow n k)
names_prop n (Member v) = λ x y. refl
names_prop n (Both a b) = ×_prop le_prop le_prop
names_prop n (Either a b) = ×_prop le_prop le_prop

pub rooted_out : (ks : List TermKey) → ∥ Rooted NamesBelow ks ∥₁ → Rooted NamesBelow ks
rooted_out ks t p d l = ∥∥₁_elim t (names_prop p (get_or ks p d)) (λ r. r p d l)

names_rise : (m n : ℕ) (k : TermKey) → m ≤ n → NamesBelow m k → NamesBelow n k
names_rise m n (Member v) h b = tt
names_rise m n (Both x y) h b = (omega arith, omega arith)
names_rise m n (Either x y) h b = (omega arith, omega arith)

tree_local : (ts us : List Term) (k : TermKey) → NamesBelow (length ts) k → tree (ts ++ us) k ≡ tree ts k
tree_local ts us (Member v) b = refl
tree_local ts us (Both x y) b = λ i. both (get_or_append_left ts us blank x b.0 i) (get_or_append_left ts us blank y b.1 i)
tree_local ts us (Either x y) b = λ i. either (get_or_append_left ts us blank x b.0 i) (get_or_append_left ts us blank y b.1 i)

tells : (ts : List Term) (k k' : TermKey) → Apart ts → NamesBelow (length ts) k → NamesBelow (length ts) k' → tree ts k ≡ tree ts k' → k ≡ k'
tells ts (Member v) (Member w) apart b c e = cc
tells ts (Member v) (Both x y) apart b c e = let no_way : ◌≡◌ {A = ℕ} 0 1 = cc in absurd (omega arith)
tells ts (Member v) (Either x y) apart b c e = let no_way : ◌≡◌ {A = ℕ} 0 1 = cc in absurd (omega arith)
tells ts (Both x y) (Member w) apart b c e = let no_way : ◌≡◌ {A = ℕ} 0 1 = cc in absurd (omega arith)
tells ts (Both x y) (Both z w) apart b c e =
    let first : get_or ts x blank ≡ get_or ts z blank = cc in
    let second : get_or ts y blank ≡ get_or ts w blank = cc in
    λ i. Both (apart_told ts apart x z blank b.0 c.0 first i) (apart_told ts apart y w blank b.1 c.1 second i)
tells ts (Both x y) (Either z w) apart b c e = let no_way : ◌≡◌ {A = ℕ} 0 1 = cc in absurd (omega arith)
tells ts (Either x y) (Member w) apart b c e = let no_way : ◌≡◌ {A = ℕ} 0 1 = cc in absurd (omega arith)
tells ts (Either x y) (Both z w) apart b c e = let no_way : ◌≡◌ {A = ℕ} 0 1 = cc in absurd (omega arith)
tells ts (Either x y) (Either z w) apart b c e =
    let first : get_or ts x blank ≡ get_or ts z blank = cc in
    let second : get_or ts y blank ≡ get_or ts w blank = cc in
    λ i. Either (apart_told ts apart x z blank b.0 c.0 first i) (apart_told ts apart y w blank b.1 c.1 second i)

pub readable : Readable tree NamesBelow (λ t. Unit {0})
readable = record {
  rises = names_rise;
  local = tree_local;
  makes = λ ts k each b. tt;
  tells = λ ts k k' each apart b c e. tells ts k k' apart b c e;
}

pub rooted_placed : (cap : ℕ) (ks : List TermKey) (k : TermKey) (i : ℕ) (ks' : List TermKey) → ∥ Rooted NamesBelow ks ∥₁ → NamesBelow (length ks) k → Placed cap ks k i ks' → ∥ Rooted NamesBelow ks' ∥₁
rooted_placed cap ks k i ks' rooted below placed =
    ⊎_elim (λ (e : ks' ≡ ks). subst (λ xs. ∥ Rooted NamesBelow xs ∥₁) (sym e) rooted)
    (λ (a : Appended cap ks k i ks'). subst (λ xs. ∥ Rooted NamesBelow xs ∥₁) (sym a.more) ∣ rooted_push readable ks k (rooted_out ks rooted) below ∣₁)
    placed.change
