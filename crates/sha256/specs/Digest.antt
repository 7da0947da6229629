-- FIPS 180-4, sections 5.2.1, 5.3.3 and 6.2: the digest of a message.
use Rattle.std.specs.Prelude.{ℕ, zero, suc, ◌*◌, ◌/◌, List, ◌++◌, length, take, drop}
use Rattle.sha256_block.specs.declared.rounds.Variables.{Variables}
use Rattle.sha256_block.specs.Block.{compress_of}
use Rattle.wire.specs.Numbers.{bytes}
use Rattle.sha256.specs.Padding.{padded}

-- Section 5.2.1: block number i of m, counted from 0.
abbrev pub block_of : ℕ → List ℕ → List ℕ
block_of i m = take 64 (drop (64 * i) m)

-- Section 5.3.3: the initial hash value.
unfoldable pub H⁰ : Variables
H⁰ = record { a = 0x6a09e667; b = 0xbb67ae85; c = 0x3c6ef372; d = 0xa54ff53a; e = 0x510e527f; f = 0x9b05688c; g = 0x1f83d9ab; h = 0x5be0cd19 }

-- Section 6.2.2: the hash value after the first i blocks of m.
unfoldable pub hashed : ℕ → List ℕ → Variables
hashed zero m = H⁰
hashed (suc i) m = compress_of (hashed i m) (block_of i m)

-- The eight words in a row, four bytes each.
unfoldable pub digest_of : Variables → List ℕ
digest_of v = bytes 4 v.a ++ bytes 4 v.b ++ bytes 4 v.c ++ bytes 4 v.d ++ bytes 4 v.e ++ bytes 4 v.f ++ bytes 4 v.g ++ bytes 4 v.h

-- The SHA-256 digest of the message m: the hash value after all blocks of the padded message.
unfoldable pub sha256 : List ℕ → List ℕ
sha256 m = digest_of (hashed (length (padded m) / 64) (padded m))
