-- Laws of tests.
use Rattle.std.proofs.Common.{◌≡◌, Bool, true, false, not, ◌&&◌, ◌||◌, refl, arith}
use mathlib.Core.Bool.{false≢true}

-- equal where each gives the other
pub same_tests : (x y : Bool) → (x ≡ true → y ≡ true) → (y ≡ true → x ≡ true) → x ≡ y
same_tests x y p q = grind arith

pub refute : (t : Bool) → (t ≡ true → ⊥) → t ≡ false
refute true h = absurd (h refl)
refute false h = refl

pub affirm : (t : Bool) → (t ≡ false → ⊥) → t ≡ true
affirm true h = refl
affirm false h = absurd (h refl)

pub not_both : (t : Bool) → t ≡ true → not t ≡ true → ⊥
not_both true p q = false≢true q
not_both false p q = false≢true p

-- a test beside one that is known
pub false_or : (a b : Bool) → a ≡ false → b ≡ (a || b)
false_or a b e = grind arith

pub or_false : (a b : Bool) → b ≡ false → a ≡ (a || b)
or_false a b e = grind arith

pub or_same : (a b : Bool) → a ≡ b → a ≡ (a || b)
or_same a b e = grind arith

pub true_and : (a b : Bool) → a ≡ true → b ≡ (a && b)
true_and a b e = grind arith

pub and_true : (a b : Bool) → b ≡ true → a ≡ (a && b)
and_true a b e = grind arith

pub and_same : (a b : Bool) → a ≡ b → a ≡ (a && b)
and_same a b e = grind arith

pub only_right : (a b : Bool) → a ≡ false → (a || b) ≡ true → b ≡ true
only_right a b p e = grind arith

-- passing a node, from passing its parts: l is low, h is high, b says whether the member is there
pub only_high : (l b h : Bool) → l ≡ false → (l || (b && h)) ≡ true → h ≡ true
only_high l b h p e = grind arith

pub node_mono : (b b' l l' h h' : Bool) → (b ≡ true → b' ≡ true) → (l ≡ true → l' ≡ true) → (h ≡ true → h' ≡ true) → (l || (b && h)) ≡ true → (l' || (b' && h')) ≡ true
node_mono b b' l l' h h' p q r e = grind arith

pub either_law : (b f0 f1 g0 g1 : Bool) → ((f0 || g0) || (b && (f1 || g1))) ≡ ((f0 || (b && f1)) || (g0 || (b && g1)))
either_law b f0 f1 g0 g1 = grind arith

pub both_law : (b f0 f1 g0 g1 : Bool) → ((f0 && g0) || (b && (((f1 && g1) || (f1 && g0)) || (f0 && g1)))) ≡ ((f0 || (b && f1)) && (g0 || (b && g1)))
both_law b f0 f1 g0 g1 = grind arith

pub turn_law : (b f0 f1 : Bool) → ((not f0 && not f1) || (b && not f0)) ≡ not (f0 || (not b && f1))
turn_law b f0 f1 = grind arith

-- over low, high may keep or leave what low passes
pub cover_law : (b l h x : Bool) → (h ≡ true → x ≡ true) → (l ≡ false → x ≡ true → h ≡ true) → (l || (b && h)) ≡ (l || (b && x))
cover_law b l h x p q = grind arith
