-- Document 02, No. 6: entries, each one party byte, n in 2 bytes, and 8 bytes of packed decimal.
use Rattle.std.specs.Prelude.{ℕ, zero, suc, ◌+◌, ◌*◌, ◌/◌, ◌%◌, ◌^◌, Bool, not, ◌&&◌, List, [], ◌∷◌, ◌++◌, eqb, leb, length, take, drop, get_or}
use Rattle.wire.specs.Numbers.{bytes, u16_at}
use Rattle.wire.specs.Parts.{all}
use Rattle.payments.specs.Payments.{payment, is_party}
use Rattle.payments.specs.declared.lists.Payment.{Payment}

-- ---- digits and half bytes

-- The last n digits of a number, the highest first, and the number that digits spell.
unfoldable pub digits : ℕ → ℕ → List ℕ
digits zero a = []
digits (suc n) a = a / 10 ^ n % 10 ∷ digits n a

unfoldable pub spelled : List ℕ → ℕ
spelled [] = 0
spelled (d ∷ ds) = d * 10 ^ length ds + spelled ds

-- Two half bytes to a byte, the high one first, and the halves of bytes.
unfoldable pub joined : List ℕ → List ℕ
joined [] = []
joined (h ∷ []) = []
joined (h ∷ k ∷ hs) = (16 * h + k) ∷ joined hs

unfoldable pub halves : List ℕ → List ℕ
halves [] = []
halves (b ∷ bs) = b / 16 ∷ b % 16 ∷ halves bs

-- ---- writing

-- Fifteen digits, and C hexadecimal in the low half of the last byte.
unfoldable pub packed : ℕ → List ℕ
packed a = joined (digits 15 a ++ (0xC ∷ []))

unfoldable pub entry : Payment → List ℕ
entry p = bytes 1 p.party ++ bytes 2 p.channel ++ packed p.amount.0

unfoldable pub written : List Payment → List ℕ
written [] = []
written (p ∷ l) = entry p ++ written l

-- ---- reading

-- The entries of a byte string, eleven bytes each.
unfoldable pub parted : ℕ → List ℕ → List (List ℕ)
parted zero x = []
parted (suc n) x = take 11 x ∷ parted n (drop 11 x)

abbrev pub entries_of : List ℕ → List (List ℕ)
entries_of x = parted (length x / 11) x

-- The half bytes of an entry's amount: fifteen, and the last one.
abbrev pub amount_halves : List ℕ → List ℕ
amount_halves e = halves (drop 3 e)

unfoldable pub amount_in : List ℕ → ℕ
amount_in e = spelled (take 15 (amount_halves e))

unfoldable pub payment_in : List ℕ → Payment
payment_in e = payment (get_or e 0 0) (u16_at e 1) (amount_in e)

abbrev pub is_digit : ℕ → Bool
is_digit h = leb h 9

unfoldable pub is_packed : List ℕ → Bool
is_packed e = all is_digit (take 15 (amount_halves e)) && eqb (get_or (amount_halves e) 15 0) 0xC

-- Not another party byte, n above 63, a half byte above 9, a last half other than C, or amount 0.
unfoldable pub good : List ℕ → Bool
good e = is_party (get_or e 0 0) && leb (u16_at e 1) 63 && is_packed e && not (eqb (amount_in e) 0)
