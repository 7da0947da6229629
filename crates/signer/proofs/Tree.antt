-- Laws of the tree: each node by its children, the climb from a leaf, and the tree as it is kept.
use Prim.Native.Nat.{ℕ, zero, suc, ◌+◌, ◌-◌, ◌*◌, ◌/◌, ◌%◌, ◌^◌, ◌≤◌, ◌<◌}
use native.Mathlib.Nat.{pow-suc, pow-succ', mul_assoc, mul-le-mul_left, pow-le-pow_right, le-div_iff_mul-le, div-le_self, one-le-pow}
use native.Mathlib.Omega.{arith}
use mathlib.Core.Path.{◌≡◌, refl, ap, sym, ◌∙◌}
use mathlib.Core.Bool.{Bool, true, false, cond}
use mathlib.Core.List.{List, []}
use borrow.Author.Tests.{le-leb, lt-leb, eqb-true, eqb-false, leb-true, leb-false}
use lib.Dec.{leb, eqb}
use lib.ListN.{length, get_or, set, length-set}
use lib.Seq.{get_or-set_same, get_or-set_other, ext_get_or}
use Rattle.lms.specs.Tree.{leaf_node, inner_node, parent_of, climb}
use Rattle.lms.proofs.Laws.{digest_length}
use Rattle.lms.proofs.Climbing.{half}
use Rattle.signer.specs.declared.state.Node.{Node}
use Rattle.signer.specs.Strings.{leaf_public}
use Rattle.signer.specs.Nodes.{node_of, tree_node, T, nodes_from, nodes_of, no_node}
use Rattle.signer.specs.Signature.{sibling_of, node_value}

-- What is read past the end of a tree.
abbrev empty : Node
empty = record { value = [] }

either : (x y : List ℕ) (b : Bool) → length x ≡ 32 → length y ≡ 32 → length (cond b x y) ≡ 32
either x y true p q = p
either x y false p q = q

-- Each level below the top has nodes 2 to 2,047, and the sibling of one is a node too.
pub below_top : (q n : ℕ) → n < 10 → 2 ≤ (1024 + q) / 2 ^ n
below_top q n h =
    (le-div_iff_mul-le (one-le-pow n 2 (omega arith))).1 (omega (arith, pow-le-pow_right {n = 2} (omega arith) {i = suc n} {j = 10} h, pow-succ' 2 n))

pub sibling_low : (k : ℕ) → 2 ≤ k → 1 ≤ sibling_of k
sibling_low k h = go (eqb (k % 2) 1) where
  go : (b : Bool) → 1 ≤ cond b (k - 1) (k + 1)
  go true = omega arith
  go false = omega arith

pub sibling_high : (k : ℕ) → k < 2048 → sibling_of k < 2048
sibling_high k h = go (eqb (k % 2) 1) refl where
  go : (b : Bool) → eqb (k % 2) 1 ≡ b → cond b (k - 1) (k + 1) < 2048
  go true e = omega arith
  go false e = omega (arith, eqb-false (k % 2) 1 e)

module _ (seed I : List ℕ) where
  node_length : (r : ℕ) (a b : List ℕ) → length (node_of seed I r a b) ≡ 32
  unfolding node_of leaf_node inner_node
  node_length r a b = either _ _ (leb 1024 r) (digest_length _) (digest_length _)

  levels_length : (n r : ℕ) → length (tree_node seed I n r) ≡ 32
  unfolding tree_node
  levels_length zero r = node_length r [] []
  levels_length (suc n) r = node_length r _ _

  pub T_length : (r : ℕ) → length (T seed I r) ≡ 32
  T_length r = levels_length 10 r

  -- Of a leaf the children do not count.
  pub leaf_alone : (r : ℕ) (a b : List ℕ) → 1024 ≤ r → node_of seed I r a b ≡ leaf_node I r (leaf_public seed I (r - 1024))
  unfolding node_of
  leaf_alone r a b h = simp (le-leb _ _ h)

  pub inner : (r : ℕ) (a b : List ℕ) → r < 1024 → node_of seed I r a b ≡ inner_node I r a b
  unfolding node_of
  inner r a b h = simp (lt-leb _ _ h)

  -- Enough levels are enough.
  settled : (n r : ℕ) → 1024 ≤ 2 ^ n * r → tree_node seed I (suc n) r ≡ tree_node seed I n r
  unfolding tree_node
  settled zero r h =
      let k : 1024 ≤ r = omega arith in
      leaf_alone r _ _ k ∙ sym (leaf_alone r [] [] k)
  settled (suc n) r h =
      let l : 1024 ≤ 2 ^ n * (2 * r) = rw (pow-suc, mul_assoc) at h in
      let m : 2 ^ n * (2 * r) ≤ 2 ^ n * (2 * r + 1) = mul-le-mul_left (2 ^ n) (omega arith) in
      cc (settled n (2 * r) l, settled n (2 * r + 1) (omega arith))

  by_children : (n r : ℕ) → 1024 ≤ 2 ^ n * (2 * r) → tree_node seed I (suc n) r ≡ node_of seed I r (tree_node seed I (suc n) (2 * r)) (tree_node seed I (suc n) (2 * r + 1))
  unfolding tree_node
  by_children n r l =
      let m : 2 ^ n * (2 * r) ≤ 2 ^ n * (2 * r + 1) = mul-le-mul_left (2 ^ n) (omega arith) in
      cc (settled n (2 * r) l, settled n (2 * r + 1) (omega arith))

  -- T[r] by its children, as the RFC has it.
  pub T_eq : (r : ℕ) → 1 ≤ r → T seed I r ≡ node_of seed I r (T seed I (2 * r)) (T seed I (2 * r + 1))
  T_eq r h = by_children 9 r (omega arith)

  -- The parent of a node and of its sibling.
  pub parent_T : (k : ℕ) → 2 ≤ k → k < 2048 → parent_of I k (T seed I k) (T seed I (sibling_of k)) ≡ T seed I (k / 2)
  unfolding parent_of
  parent_T k h l = go (eqb (k % 2) 1) refl where
    p : ℕ
    p = k / 2

    above : inner_node I p (T seed I (2 * p)) (T seed I (2 * p + 1)) ≡ T seed I p
    above = sym (T_eq p (omega arith) ∙ inner p _ _ (omega arith))

    go : (b : Bool) → eqb (k % 2) 1 ≡ b
        → cond b (inner_node I p (T seed I (cond b (k - 1) (k + 1))) (T seed I k)) (inner_node I p (T seed I k) (T seed I (cond b (k - 1) (k + 1)))) ≡ T seed I p
    go true e =
        let o : k ≡ 2 * p + 1 = omega (arith, eqb-true (k % 2) 1 e) in
        let s : k - 1 ≡ 2 * p = omega arith in
        ap (λ (j : ℕ). inner_node I p (T seed I (k - 1)) (T seed I j)) o ∙ ap (λ (j : ℕ). inner_node I p (T seed I j) (T seed I (2 * p + 1))) s ∙ above
    go false e =
        let o : k ≡ 2 * p = omega (arith, eqb-false (k % 2) 1 e) in
        let s : k + 1 ≡ 2 * p + 1 = omega arith in
        ap (λ (j : ℕ). inner_node I p (T seed I j) (T seed I (k + 1))) o ∙ ap (λ (j : ℕ). inner_node I p (T seed I (2 * p)) (T seed I j)) s ∙ above

  -- From a leaf up to the root, with the sibling at each level.
  module _ (q : ℕ) (siblings : List (List ℕ)) (inside : q < 1024)
      (right : (i : ℕ) → i < 10 → get_or siblings i [] ≡ T seed I (sibling_of ((1024 + q) / 2 ^ i))) where
    climb_T : (n : ℕ) → n ≤ 10 → climb I (1024 + q) (T seed I (1024 + q)) siblings n ≡ T seed I ((1024 + q) / 2 ^ n)
    unfolding climb
    climb_T zero h = ap (T seed I) (omega arith)
    climb_T (suc n) h =
        let k : ℕ = (1024 + q) / 2 ^ n in
        let low : 2 ≤ k = below_top q n (omega arith) in
        let high : k < 2048 = omega (arith, div-le_self (1024 + q) (2 ^ n)) in
        ap (λ (x : List ℕ). parent_of I k x (get_or siblings n [])) (climb_T n (omega arith))
        ∙ ap (parent_of I k (T seed I k)) (right n (omega arith))
        ∙ parent_T k low high
        ∙ ap (T seed I) (half (1024 + q) n)

    pub climb_root : climb I (1024 + q) (T seed I (1024 + q)) siblings 10 ≡ T seed I 1
    climb_root = climb_T 10 (omega arith) ∙ ap (T seed I) (omega arith)

  -- The tree as it is kept.
  from_size : (n r : ℕ) → length (nodes_from seed I r n) ≡ n
  unfolding nodes_from
  from_size zero r = refl
  from_size (suc n) r = ap suc (from_size n (suc r))

  from_at : (d : Node) (n r k : ℕ) → k < n → get_or (nodes_from seed I r n) k d ≡ record { value = T seed I (r + k) }
  unfolding nodes_from
  from_at d zero r k h = absurd (omega arith)
  from_at d (suc n) r zero h = ap (λ (j : ℕ). record { value = T seed I j }) (omega arith)
  from_at d (suc n) r (suc k) h = from_at d n (suc r) k (omega arith) ∙ ap (λ (j : ℕ). record { value = T seed I j }) (omega arith)

  kept_size : length (nodes_of seed I) ≡ 2048
  unfolding nodes_of
  kept_size = ap suc (from_size 2047 1)

  first_kept : no_node ≡ get_or (nodes_of seed I) 0 empty
  unfolding nodes_of
  first_kept = refl

  kept_node : (r : ℕ) → 1 ≤ r → r < 2048 → get_or (nodes_of seed I) r empty ≡ record { value = T seed I r }
  unfolding nodes_of
  kept_node zero l h = absurd (omega arith)
  kept_node (suc k) l h = from_at empty 2047 1 k (omega arith) ∙ ap (λ (j : ℕ). record { value = T seed I j }) (omega arith)

  pub kept_at : (r : ℕ) → 1 ≤ r → r < 2048 → node_value (nodes_of seed I) r ≡ T seed I r
  kept_at r l h = ap (λ (x : Node). x.value) (kept_node r l h)

  pub kept_length : (r : ℕ) → r < 2048 → length (node_value (nodes_of seed I) r) ≡ 32
  unfolding nodes_of
  kept_length zero h = refl
  kept_length (suc k) h = ap (λ (x : Node). length x.value) (from_at empty 2047 1 k (omega arith)) ∙ T_length (1 + k)

  -- A tree that is filled down to node r: every node from r on stands in its place.
  pub record Filled (nodes : List Node) (r : ℕ) : Type 0 where
    pub size : length nodes ≡ 2048
    pub within : r ≤ 2048
    pub zeros : get_or nodes 0 empty ≡ no_node
    pub above : (k : ℕ) → r ≤ k → k < 2048 → get_or nodes k empty ≡ record { value = T seed I k }

  -- The value of node r by what stands in the places of its children.
  value_of : (nodes : List Node) (r : ℕ) → Filled nodes (r + 1) → 0 < r → node_of seed I r (node_value nodes (2 * r % 2048)) (node_value nodes ((2 * r + 1) % 2048)) ≡ T seed I r
  value_of nodes r f h = go (leb 1024 r) refl where
    go : (b : Bool) → leb 1024 r ≡ b → node_of seed I r (node_value nodes (2 * r % 2048)) (node_value nodes ((2 * r + 1) % 2048)) ≡ T seed I r
    go true e =
        let l : 1024 ≤ r = leb-true 1024 r e in
        leaf_alone r _ _ l ∙ sym (T_eq r h ∙ leaf_alone r _ _ l)
    go false e =
        let l : r < 1024 = leb-false 1024 r e in
        let a : 2 * r % 2048 ≡ 2 * r = omega arith in
        let b : (2 * r + 1) % 2048 ≡ 2 * r + 1 = omega arith in
        let x : node_value nodes (2 * r % 2048) ≡ T seed I (2 * r) =
        ap (node_value nodes) a ∙ ap (λ (n : Node). n.value) (f.above (2 * r) (omega arith) (omega arith)) in
        let y : node_value nodes ((2 * r + 1) % 2048) ≡ T seed I (2 * r + 1) =
        ap (node_value nodes) b ∙ ap (λ (n : Node). n.value) (f.above (2 * r + 1) (omega arith) (omega arith)) in
        ap (λ (t : List ℕ). node_of seed I r t (node_value nodes ((2 * r + 1) % 2048))) x ∙ ap (node_of seed I r (T seed I (2 * r))) y ∙ sym (T_eq r h)

  pub fill : (nodes : List Node) (r : ℕ) (x : List ℕ) → Filled nodes (r + 1) → 0 < r
      → x ≡ node_of seed I r (node_value nodes (2 * r % 2048)) (node_value nodes ((2 * r + 1) % 2048)) → Filled (set nodes r (record { value = x })) r
  fill nodes r x f h e =
      record {
        size = length-set nodes r (record { value = x }) ∙ f.size;
        within = omega (arith, f.within);
        zeros = get_or-set_other nodes r 0 (record { value = x }) empty (λ z. omega arith) ∙ f.zeros;
        above = λ k l m. go k m (eqb k r) refl l;
      } where
        go : (k : ℕ) → k < 2048 → (b : Bool) → eqb k r ≡ b → r ≤ k → get_or (set nodes r (record { value = x })) k empty ≡ record { value = T seed I k }
        go k m true z l =
            let s : k ≡ r = eqb-true k r z in
            ap (λ (j : ℕ). get_or (set nodes r (record { value = x })) j empty) s
            ∙ get_or-set_same nodes r (record { value = x }) empty (omega (arith, f.size))
            ∙ ap (λ (v : List ℕ). record { value = v }) (e ∙ value_of nodes r f h ∙ ap (T seed I) (sym s))
        go k m false z l =
            get_or-set_other nodes r k (record { value = x }) empty (eqb-false k r z) ∙ f.above k (omega (arith, eqb-false k r z)) m

  -- Filled down to 1 it is the whole tree.
  pub full : (nodes : List Node) (r : ℕ) → Filled nodes r → r ≤ 1 → nodes ≡ nodes_of seed I
  full nodes r f h = ext_get_or empty nodes (nodes_of seed I) (f.size ∙ sym kept_size) at where
    at : (i : ℕ) → i < length nodes → get_or nodes i empty ≡ get_or (nodes_of seed I) i empty
    at zero l = f.zeros ∙ first_kept
    at (suc i) l = f.above (suc i) (omega arith) (omega (arith, f.size)) ∙ sym (kept_node (suc i) (omega arith) (omega (arith, f.size)))
