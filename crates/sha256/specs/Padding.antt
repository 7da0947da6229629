-- FIPS 180-4, section 5.1.1: the padding of a message of whole bytes.
use Rattle.std.specs.Prelude.{ℕ, ◌+◌, ◌-◌, ◌*◌, ◌%◌, ◌≤◌, ◌≡◌, List, ◌∷◌, ◌++◌, length, replicate}
use Rattle.wire.specs.Numbers.{bytes}

-- The fewest zeros that, behind n bytes and one more, and before eight, make up whole blocks of 64 bytes.
abbrev pub zeros : ℕ → ℕ
zeros n = (119 - n % 64) % 64

-- That they are: with z zeros the blocks are whole, and with fewer they are not.
pub record Fewest (n z : ℕ) : Type 0 where
  pub whole : (n + 1 + z + 8) % 64 ≡ 0
  pub fewest : (y : ℕ) → (n + 1 + y + 8) % 64 ≡ 0 → z ≤ y

-- A message of n bytes is followed by a bit 1 and zeros, and then by its length in bits, in eight bytes.
unfoldable pub padding : ℕ → List ℕ
padding n = 0x80 ∷ replicate (zeros n) 0 ++ bytes 8 (8 * n)

unfoldable pub padded : List ℕ → List ℕ
padded m = m ++ padding (length m)
