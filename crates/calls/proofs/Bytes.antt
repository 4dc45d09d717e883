-- Eight bytes give back the number that they were made from, so bytes give back the numbers of a page.
use Rattle.std.proofs.Common.{◌≡◌, ℕ, ◌+◌, ◌*◌, ◌/◌, ◌%◌, ◌^◌, ◌<◌, List, [], ◌∷◌, length, sym, refl, ap, ◌∙◌, ap₂, arith}
use native.Mathlib.Nat.{div-add-mod, div-div-eq-div-mul}
use Rattle.std.specs.List.{AllByRecursion}
use Rattle.diagrams.specs.Listing.{page_bytes}
use Rattle.calls.specs.Sheets.{number_in, numbers_in}

-- a quotient is the next one and a digit
digit_step : (g c : ℕ) → g / c ≡ 256 * (g / (c * 256)) + g / c % 256
digit_step g c = sym (div-add-mod (g / c) 256) ∙ ap (λ q. 256 * q + g / c % 256) (div-div-eq-div-mul g c 256)

collected : (n q1 q2 q3 q4 q5 q6 a b c d e f g h : ℕ)
    → n ≡ 256 * q1 + h → q1 ≡ 256 * q2 + g → q2 ≡ 256 * q3 + f → q3 ≡ 256 * q4 + e → q4 ≡ 256 * q5 + d → q5 ≡ 256 * q6 + c → q6 ≡ 256 * a + b
    → number_in a b c d e f g h ≡ n
collected n q1 q2 q3 q4 q5 q6 a b c d e f g h p1 p2 p3 p4 p5 p6 p7 = omega arith

first_digit : (n : ℕ) → n < 2 ^ 64 → n / 2 ^ 56 % 256 ≡ n / 2 ^ 56
first_digit n l = omega arith

number_again : (n : ℕ) → n < 2 ^ 64 → number_in (n / 2 ^ 56 % 256) (n / 2 ^ 48 % 256) (n / 2 ^ 40 % 256) (n / 2 ^ 32 % 256) (n / 2 ^ 24 % 256) (n / 2 ^ 16 % 256) (n / 256 % 256) (n % 256) ≡ n
number_again n l = collected n (n / 256) (n / 2 ^ 16) (n / 2 ^ 24) (n / 2 ^ 32) (n / 2 ^ 40) (n / 2 ^ 48) (n / 2 ^ 56 % 256) (n / 2 ^ 48 % 256) (n / 2 ^ 40 % 256) (n / 2 ^ 32 % 256) (n / 2 ^ 24 % 256) (n / 2 ^ 16 % 256) (n / 256 % 256) (n % 256)
    (sym (div-add-mod n 256)) (digit_step n 256) (digit_step n (2 ^ 16)) (digit_step n (2 ^ 24)) (digit_step n (2 ^ 32)) (digit_step n (2 ^ 40))
    (digit_step n (2 ^ 48) ∙ ap (λ q. 256 * q + n / 2 ^ 48 % 256) (sym (first_digit n l)))

pub numbers_again : (ns : List ℕ) → AllByRecursion (λ n. n < 2 ^ 64) ns → numbers_in (page_bytes ns) ≡ ns
numbers_again [] a = refl
numbers_again (n ∷ ns) a = ap₂ (λ x xs. x ∷ xs) (number_again n a.0) (numbers_again ns a.1)

pub pages_once : (ns ms : List ℕ) → AllByRecursion (λ n. n < 2 ^ 64) ns → AllByRecursion (λ n. n < 2 ^ 64) ms → page_bytes ns ≡ page_bytes ms → ns ≡ ms
pages_once ns ms a b e = sym (numbers_again ns a) ∙ ap numbers_in e ∙ numbers_again ms b

pub length_page : (ns : List ℕ) → length (page_bytes ns) ≡ 8 * length ns
length_page [] = refl
length_page (n ∷ ns) = omega (arith, length_page ns)
