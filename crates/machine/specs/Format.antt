-- Document 01, "Commands": one byte, then operands of fixed width; whole lengths; the signed message.
use Rattle.std.specs.Prelude.{List, [], ◌∷◌, ◌++◌, ℕ, ◌-◌, get_or}
use Rattle.wire.specs.Numbers.{u16_at, u32_at, u64_at}
use Rattle.wire.specs.Parts.{part}

-- The first byte, 0 where there is none.
abbrev pub opcode : List ℕ → ℕ
opcode s = get_or s 0 0

-- Whole lengths, 01 to 0A.
unfoldable pub size : ℕ → ℕ
size op = get_or (0 ∷ 9 ∷ 135 ∷ 11 ∷ 11 ∷ 1455 ∷ 2923 ∷ 2955 ∷ 1455 ∷ 1487 ∷ 3 ∷ []) op 0

-- ---- operands

-- 01: the time.
abbrev pub time : List ℕ → ℕ
time s = u64_at s 1

-- 02 to 0A: the channel n.
abbrev pub place : List ℕ → ℕ
place s = u16_at s 1

-- 02: the two keys, the two deposits D_c and D_b, the delay.
abbrev pub customer_key : List ℕ → List ℕ
customer_key s = part s 3 56

abbrev pub merchant_key : List ℕ → List ℕ
merchant_key s = part s 59 56

abbrev pub customer_deposit : List ℕ → ℕ
customer_deposit s = u64_at s 115

abbrev pub merchant_deposit : List ℕ → ℕ
merchant_deposit s = u64_at s 123

abbrev pub delay : List ℕ → ℕ
delay s = u32_at s 131

-- 03, 04: the cents.
abbrev pub amount : List ℕ → ℕ
amount s = u64_at s 3

-- 07: the lock. 09: the secret.
abbrev pub lock : List ℕ → List ℕ
lock s = part s 3 32

abbrev pub secret : List ℕ → List ℕ
secret s = part s 3 32

-- Where the first signature of 05 to 09 stands; in 06 and 07 the second follows it.
abbrev pub signatures : ℕ → ℕ
signatures op = get_or (0 ∷ 0 ∷ 0 ∷ 0 ∷ 0 ∷ 3 ∷ 19 ∷ 51 ∷ 3 ∷ 35 ∷ []) op 0

-- 06, 07: c and b, the last operands before the signatures.
abbrev pub customer_part : ℕ → List ℕ → ℕ
customer_part op s = u64_at s (signatures op - 16)

abbrev pub merchant_part : ℕ → List ℕ → ℕ
merchant_part op s = u64_at s (signatures op - 8)

-- The signature at a place.
abbrev pub signature : ℕ → List ℕ → List ℕ
signature at s = part s at 1452

-- The signed message: the opcode, the book id, n once, then the operands between n and the first signature, which stands at end.
unfoldable pub message : ℕ → List ℕ → List ℕ → List ℕ
message end id s = part s 0 1 ++ id ++ part s 1 (end - 1)
