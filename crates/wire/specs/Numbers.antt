-- Numbers in bytes, big-endian: the highest byte first (document 01; FIPS 180-4, section 3.1; RFC 8554, section 3.1).
use Rattle.std.specs.Prelude.{ℕ, zero, suc, ◌+◌, ◌*◌, ◌/◌, ◌%◌, ◌^◌, List, [], ◌∷◌, get_or}

-- The number x in n bytes.
unfoldable pub bytes : ℕ → ℕ → List ℕ
bytes zero x = []
bytes (suc n) x = x / 256 ^ n % 256 ∷ bytes n x

-- The number in the two, in the four, and in the eight bytes of s from place at on.
unfoldable pub u16_at : List ℕ → ℕ → ℕ
u16_at s at = get_or s at 0 * 2 ^ 8 + get_or s (at + 1) 0

unfoldable pub u32_at : List ℕ → ℕ → ℕ
u32_at s at = get_or s at 0 * 2 ^ 24 + get_or s (at + 1) 0 * 2 ^ 16 + get_or s (at + 2) 0 * 2 ^ 8 + get_or s (at + 3) 0

unfoldable pub u64_at : List ℕ → ℕ → ℕ
u64_at s at = u32_at s at * 2 ^ 32 + u32_at s (at + 4)
