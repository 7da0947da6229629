-- RFC 8554, section 4: the one-time signature, w = 8. Here I is a key's identifier and q a leaf's number.
use Rattle.std.specs.Prelude.{ℕ, zero, suc, ◌+◌, ◌-◌, List, ◌++◌, get_or}
use Rattle.wire.specs.Numbers.{bytes}
use Rattle.sha256.specs.Digest.{sha256}
use Rattle.lms.specs.Layout.{string}
use Rattle.lms.specs.Rows.{row}

-- Section 4.5 and 4.6: Q = H(I, q, 8181, C, message).
unfoldable pub message_hash : List ℕ → ℕ → List ℕ → List ℕ → List ℕ
message_hash I q C message = sha256 (I ++ bytes 4 q ++ bytes 2 0x8181 ++ C ++ message)

-- The sum of 255 minus each of the first n numbers of l.
unfoldable pub deficit : List ℕ → ℕ → ℕ
deficit l zero = 0
deficit l (suc n) = deficit l n + (255 - get_or l n 0)

-- Section 4.4: the checksum of Q, and the 34 digits: the bytes of Q and of its checksum.
abbrev pub checksum : List ℕ → ℕ
checksum Q = deficit Q 32

unfoldable pub digits : List ℕ → List ℕ
digits Q = Q ++ bytes 2 (checksum Q)

-- The chain steps of all 34 chains: the sum of 255 minus each digit.
unfoldable pub step_count : List ℕ → ℕ
step_count Q = deficit (digits Q) 34

-- Section 4.6: one chain step H(I, q, i, j, string), where s is I, q and i; and n steps from j on.
unfoldable pub chain_step : List ℕ → ℕ → List ℕ → List ℕ
chain_step s j x = sha256 (s ++ bytes 1 j ++ x)

unfoldable pub walk : List ℕ → ℕ → ℕ → List ℕ → List ℕ
walk s zero j x = x
walk s (suc n) j x = walk s n (suc j) (chain_step s j x)

-- What the hashes of chain i begin with: I, q and i.
abbrev pub chain_of : List ℕ → ℕ → ℕ → List ℕ
chain_of I q i = I ++ bytes 4 q ++ bytes 2 i

-- The end of chain i, from digit d on: steps d to 254.
unfoldable pub chain_end : List ℕ → ℕ → ℕ → ℕ → List ℕ → List ℕ
chain_end I q i d x = walk (chain_of I q i) (255 - d) d x

-- The end of chain i that a signature gives, with the digits ds.
abbrev pub end_of : List ℕ → ℕ → List ℕ → List ℕ → ℕ → List ℕ
end_of I q ds signature i = chain_end I q i (get_or ds i 0) (string signature i)

-- The key of a leaf by the ends of its chains: H(I, q, 8080, the 34 ends).
unfoldable pub key_of_ends : List ℕ → ℕ → (ℕ → List ℕ) → List ℕ
key_of_ends I q end = sha256 (I ++ bytes 4 q ++ bytes 2 0x8080 ++ row end 34)

-- The leaf key that a signature gives with Q.
unfoldable pub leaf_key : List ℕ → ℕ → List ℕ → List ℕ → List ℕ
leaf_key I q Q signature = key_of_ends I q (end_of I q (digits Q) signature)
