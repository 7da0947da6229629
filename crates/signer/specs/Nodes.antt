-- RFC 8554, section 5.3: the tree T and the public key. The root is node 1, the children of r are 2 r and 2 r + 1, the leaves are 1,024 to 2,047.
use Rattle.std.specs.Prelude.{ℕ, zero, suc, ◌+◌, ◌-◌, ◌*◌, cond, List, [], ◌∷◌, ◌++◌, leb, replicate}
use Rattle.wire.specs.Numbers.{bytes}
use Rattle.lms.specs.Tree.{leaf_node, inner_node}
use Rattle.signer.specs.declared.state.Node.{Node}
use Rattle.signer.specs.Strings.{leaf_public}

-- The value of node r: of a leaf by its public value, of any other by its children's values.
unfoldable pub node_of : List ℕ → List ℕ → ℕ → List ℕ → List ℕ → List ℕ
node_of seed I r left right = cond (leb 1024 r) (leaf_node I r (leaf_public seed I (r - 1024))) (inner_node I r left right)

-- T[r], worked out over n levels below r.
unfoldable pub tree_node : List ℕ → List ℕ → ℕ → ℕ → List ℕ
tree_node seed I zero r = node_of seed I r [] []
tree_node seed I (suc n) r = node_of seed I r (tree_node seed I n (2 * r)) (tree_node seed I n (2 * r + 1))

-- T[r] of a tree of height 10.
abbrev pub T : List ℕ → List ℕ → ℕ → List ℕ
T seed I r = tree_node seed I 10 r

-- The n nodes from r on.
unfoldable pub nodes_from : List ℕ → List ℕ → ℕ → ℕ → List Node
nodes_from seed I r zero = []
nodes_from seed I r (suc n) = record { value = T seed I r } ∷ nodes_from seed I (suc r) n

-- The tree as it is kept, with zeros at place 0, which is no node's.
abbrev pub no_node : Node
no_node = record { value = replicate 32 0 }

unfoldable pub nodes_of : List ℕ → List ℕ → List Node
nodes_of seed I = no_node ∷ nodes_from seed I 1 2047

-- The public key: types 6 and 4, I and the root.
unfoldable pub key_of : List ℕ → List ℕ → List ℕ
key_of seed I = bytes 4 6 ++ bytes 4 4 ++ I ++ T seed I 1
