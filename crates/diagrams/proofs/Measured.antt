-- The steps that are left grow fewer: a deeper question has a lower digit.
use Rattle.std.proofs.Common.{◌≡◌, ℕ, zero, suc, ◌+◌, ◌-◌, ◌*◌, ◌<◌, ◌≤◌, refl, ap, ◌∙◌, mul-le-mul_right, add-mul, one-mul, arith}
use Rattle.diagrams.specs.Solving.{span}

pub span_pos : (k : ℕ) → 0 < span k
unfolding span
span_pos zero = omega arith
span_pos (suc k) = omega (arith, span_pos k)

span_suc : (k : ℕ) → span (suc k) ≡ 9 * span k
unfolding span
span_suc k = refl

span_next : (n : ℕ) → n < 48 → span (48 - n) ≡ 9 * span (48 - suc n)
span_next n h = let e : 48 - n ≡ suc (48 - suc n) = omega arith in ap span e ∙ span_suc (48 - suc n)

-- a digit that falls pays for the question that is asked above it
digit_falls : (a b u : ℕ) → a < b → a * u + u ≤ b * u
digit_falls a b u h = let m : (a + 1) * u ≤ b * u = mul-le-mul_right u (omega arith) in omega (arith, add-mul a 1 u, one-mul u)

-- a question is opened, or asks on
pub asking_falls : (a n d w : ℕ) → a < n → d < 48 → 8 * span (48 - suc d) + (a * span (48 - d) + w) < n * span (48 - d) + w
asking_falls a n d w h l =
    omega (arith, digit_falls a n (span (48 - d)) h, span_next d l, span_pos (48 - suc d))

-- a question is answered that was not opened
pub answering_falls : (d w : ℕ) → w < 8 * span (48 - d) + w
answering_falls d w = omega (arith, span_pos (48 - d))

-- an open question is answered
pub ending_falls : (a d w : ℕ) → w < suc a * span (48 - d) + w
ending_falls a d w = omega (arith, digit_falls 0 (suc a) (span (48 - d)) (omega arith), span_pos (48 - d))
