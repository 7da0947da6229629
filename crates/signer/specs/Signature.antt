-- RFC 8554, sections 4.5 and 5.4.1: a signature.
use Rattle.std.specs.Prelude.{ℕ, ◌+◌, ◌-◌, ◌/◌, ◌%◌, ◌^◌, cond, List, [], ◌++◌, eqb, get_or}
use Rattle.wire.specs.Numbers.{bytes}
use Rattle.lms.specs.OneTime.{message_hash, digits}
use Rattle.signer.specs.declared.state.Node.{Node}
use Rattle.lms.specs.Rows.{row}
use Rattle.signer.specs.Strings.{string_of}

-- The other child of a node's parent: a right child is odd.
abbrev pub sibling_of : ℕ → ℕ
sibling_of node = cond (eqb (node % 2) 1) (node - 1) (node + 1)

-- The value of a node of a tree that is kept; nothing past its end.
abbrev pub node_value : List Node → ℕ → List ℕ
node_value nodes r = (get_or nodes r (record { value = [] })).value

-- path[i]: the sibling of the node i levels above the leaf.
abbrev pub path_of : List Node → ℕ → ℕ → List ℕ
path_of nodes q i = node_value nodes (sibling_of ((1024 + q) / 2 ^ i))

-- y[i]: chain i walked as many steps as digit i says.
abbrev pub signed_string : List ℕ → List ℕ → ℕ → List ℕ → ℕ → List ℕ
signed_string seed I q ds i = string_of seed I q i (get_or ds i 0)

-- Leaf q, one-time type 4, C, the 34 strings, type 6, the ten path strings.
unfoldable pub signature_of : List ℕ → List ℕ → List Node → ℕ → List ℕ → List ℕ → List ℕ
signature_of seed I nodes q C message =
    bytes 4 q ++ bytes 4 4 ++ C ++ row (signed_string seed I q (digits (message_hash I q C message))) 34 ++ bytes 4 6 ++ row (path_of nodes q) 10
