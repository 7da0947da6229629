-- RFC 8554, section 5.4.2: from a leaf key to the root of the tree.
use Rattle.std.specs.Prelude.{ℕ, zero, suc, ◌/◌, ◌%◌, ◌^◌, cond, List, [], ◌++◌, eqb, get_or}
use Rattle.wire.specs.Numbers.{bytes}
use Rattle.sha256.specs.Digest.{sha256}

-- The leaf with the given node number: H(I, node, 8282, leaf key).
unfoldable pub leaf_node : List ℕ → ℕ → List ℕ → List ℕ
leaf_node I node key = sha256 (I ++ bytes 4 node ++ bytes 2 0x8282 ++ key)

-- An inner node by its children: H(I, node, 8383, left child, right child).
unfoldable pub inner_node : List ℕ → ℕ → List ℕ → List ℕ → List ℕ
inner_node I node left right = sha256 (I ++ bytes 4 node ++ bytes 2 0x8383 ++ left ++ right)

-- The parent p = node / 2 of a node with value x: an odd node is the right child.
unfoldable pub parent_of : List ℕ → ℕ → List ℕ → List ℕ → List ℕ
parent_of I node x sibling = cond (eqb (node % 2) 1) (inner_node I (node / 2) sibling x) (inner_node I (node / 2) x sibling)

-- The value n levels above a node with value x, with the siblings on the way.
unfoldable pub climb : List ℕ → ℕ → List ℕ → List (List ℕ) → ℕ → List ℕ
climb I node x siblings zero = x
climb I node x siblings (suc n) = parent_of I (node / 2 ^ n) (climb I node x siblings n) (get_or siblings n [])
