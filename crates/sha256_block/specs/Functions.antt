-- FIPS 180-4, sections 2.2.2, 3.2 and 4.1.2: operations on words and the functions of SHA-256. A word is a number below 2 ^ 32.
use Rattle.std.specs.Prelude.{ℕ, ◌+◌, ◌-◌, ◌*◌, ◌/◌, ◌%◌, ◌^◌, bit_and, bit_or, bit_xor}

infixl 60 ◌⊞◌
-- Section 3.2: addition modulo 2 ^ 32.
abbrev pub ◌⊞◌ : ℕ → ℕ → ℕ
x ⊞ y = (x + y) % 2 ^ 32

-- Section 2.2.2: ¬x, each bit turned over.
abbrev pub complement : ℕ → ℕ
complement x = (2 ^ 32 - 1) - x

-- Section 3.2: SHRⁿ(x) = x >> n.
unfoldable pub shr : ℕ → ℕ → ℕ
shr n x = x / 2 ^ n

-- Section 3.2: ROTRⁿ(x) = (x >> n) ∨ (x << 32 - n).
unfoldable pub rotr : ℕ → ℕ → ℕ
rotr n x = bit_or (x / 2 ^ n) ((x * 2 ^ (32 - n)) % 2 ^ 32)

-- Section 4.1.2, (4.2): Ch(x, y, z) = (x ∧ y) ⊕ (¬x ∧ z).
unfoldable pub Ch : ℕ → ℕ → ℕ → ℕ
Ch x y z = bit_xor (bit_and x y) (bit_and (complement x) z)

-- (4.3): Maj(x, y, z) = (x ∧ y) ⊕ (x ∧ z) ⊕ (y ∧ z).
unfoldable pub Maj : ℕ → ℕ → ℕ → ℕ
Maj x y z = bit_xor (bit_xor (bit_and x y) (bit_and x z)) (bit_and y z)

-- (4.4) to (4.7).
unfoldable pub Σ₀ : ℕ → ℕ
Σ₀ x = bit_xor (bit_xor (rotr 2 x) (rotr 13 x)) (rotr 22 x)

unfoldable pub Σ₁ : ℕ → ℕ
Σ₁ x = bit_xor (bit_xor (rotr 6 x) (rotr 11 x)) (rotr 25 x)

unfoldable pub σ₀ : ℕ → ℕ
σ₀ x = bit_xor (bit_xor (rotr 7 x) (rotr 18 x)) (shr 3 x)

unfoldable pub σ₁ : ℕ → ℕ
σ₁ x = bit_xor (bit_xor (rotr 17 x) (rotr 19 x)) (shr 10 x)
