-- Hashes of 32 bits. Assumes nothing.
use Rattle.std.specs.Prelude.{ℕ, ◌-◌, ◌*◌, ◌/◌, ◌%◌, ◌^◌, bit_or, bit_xor}

-- the product that wraps at 32 bits
abbrev pub times : ℕ → ℕ → ℕ
times x y = (x * y) % 2 ^ 32

-- the 32 bits of x, turned towards the high end
abbrev pub turned : ℕ → ℕ → ℕ
turned x by = bit_or ((x * 2 ^ by) % 2 ^ 32) (x / 2 ^ (32 - by))

-- the hash h with one more word
abbrev pub mixed : ℕ → ℕ → ℕ
mixed h word = turned (times (bit_xor h word) 0x9e37_79b1) 13

-- the hash h after its last word
abbrev pub finished : ℕ → ℕ
finished h = times (bit_xor h (h / 2 ^ 16)) 0x85eb_ca6b
