-- RFC 8554, sections 5.3 and 5.4; document 01, "Signature check": what stands where in a key and in a signature.
use Rattle.std.specs.Prelude.{ℕ, ◌+◌, ◌*◌, Bool, ◌&&◌, List, [], ◌∷◌, eqb, ltb, length}
use Rattle.wire.specs.Numbers.{u32_at}
use Rattle.wire.specs.Parts.{part}

-- A key of 56 bytes: type, one-time type, identifier I, root.
abbrev pub key_type : List ℕ → ℕ
key_type key = u32_at key 0

abbrev pub key_one_time_type : List ℕ → ℕ
key_one_time_type key = u32_at key 4

abbrev pub identifier : List ℕ → List ℕ
identifier key = part key 8 16

abbrev pub root : List ℕ → List ℕ
root key = part key 24 32

-- It carries types 6 and 4.
abbrev pub typed_key : List ℕ → Bool
typed_key key = eqb (key_type key) 6 && eqb (key_one_time_type key) 4

-- A signature of 1,452 bytes: leaf q, one-time type, C, 34 strings, type, ten path strings.
abbrev pub leaf : List ℕ → ℕ
leaf signature = u32_at signature 0

abbrev pub one_time_type : List ℕ → ℕ
one_time_type signature = u32_at signature 4

abbrev pub nonce : List ℕ → List ℕ
nonce signature = part signature 8 32

abbrev pub string : List ℕ → ℕ → List ℕ
string signature i = part signature (40 + 32 * i) 32

abbrev pub tree_type : List ℕ → ℕ
tree_type signature = u32_at signature 1128

abbrev pub path : List ℕ → List (List ℕ)
path s = part s 1132 32 ∷ part s 1164 32 ∷ part s 1196 32 ∷ part s 1228 32 ∷ part s 1260 32 ∷ part s 1292 32 ∷ part s 1324 32 ∷ part s 1356 32 ∷ part s 1388 32 ∷ part s 1420 32 ∷ []

-- The right types, and a leaf that the tree has.
abbrev pub right_types : List ℕ → List ℕ → Bool
right_types key signature =
    typed_key key && eqb (tree_type signature) 6 && eqb (one_time_type signature) 4 && ltb (leaf signature) 1024

-- The right lengths too.
unfoldable pub well_formed : List ℕ → List ℕ → Bool
well_formed key signature = eqb (length key) 56 && eqb (length signature) 1452 && right_types key signature
