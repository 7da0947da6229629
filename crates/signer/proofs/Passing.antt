-- A signature of a fresh signer's tree passes the check under its key.
use Prim.Native.Nat.{ℕ, zero, suc, ◌+◌, ◌-◌, ◌*◌, ◌/◌, ◌^◌, ◌≤◌, ◌<◌}
use native.Mathlib.Nat.{div-le_self}
use native.Mathlib.Omega.{arith}
use mathlib.Core.Path.{◌≡◌, refl, ap, sym, subst, ◌∙◌}
use mathlib.Core.Bool.{Bool, true, false, false≢true}
use mathlib.Core.List.{List, [], ◌++◌}
use borrow.Author.Tests.{eq-eqb, lt-ltb, le-leb}
use lib.Dec.{leb}
use lib.ListN.{length, get_or, length-append}
use Rattle.wire.specs.Numbers.{bytes}
use Rattle.wire.specs.Parts.{part, same}
use Rattle.wire.proofs.Laws.{and_make, same_refl, bytes_length, u32_front}
use Rattle.lms.specs.Layout.{identifier, root, leaf, one_time_type, nonce, string, tree_type, path, key_type, key_one_time_type, well_formed}
use Rattle.lms.specs.OneTime.{message_hash, digits, leaf_key}
use Rattle.lms.specs.Tree.{leaf_node, climb}
use Rattle.lms.specs.Check.{Checked, verified_of, checked_by, check_of}
use Rattle.lms.specs.Rows.{row}
use Rattle.signer.specs.Strings.{string_of, leaf_public}
use Rattle.signer.specs.Nodes.{T, nodes_of, key_of}
use Rattle.signer.specs.Signature.{sibling_of, path_of, signed_string, signature_of}
use Rattle.signer.proofs.Parts.{part_last, part_front, part_behind, u32_last, row_length, row_part}
use Rattle.signer.proofs.Chains.{string_length, small_digits, key_full}
use Rattle.signer.proofs.Tree.{below_top, sibling_low, sibling_high, T_length, T_eq, leaf_alone, climb_root, kept_at, kept_length}

-- ---- what stands where in a signature

module _ (C S P : List ℕ) (q : ℕ) (lC : length C ≡ 32) (lS : length S ≡ 1088) (lP : length P ≡ 320) where
  -- The signature's front, part by part.
  abbrev a₁ : List ℕ
  a₁ = bytes 4 q ++ bytes 4 4

  abbrev a₂ : List ℕ
  a₂ = a₁ ++ C

  abbrev a₃ : List ℕ
  a₃ = a₂ ++ S

  abbrev a₄ : List ℕ
  a₄ = a₃ ++ bytes 4 6

  abbrev a₅ : List ℕ
  a₅ = a₄ ++ P

  l₀ : length (bytes 4 q) ≡ 4
  l₀ = bytes_length 4 q

  l₁ : length a₁ ≡ 8
  l₁ = length-append (bytes 4 q) (bytes 4 4) ∙ omega (arith, l₀, bytes_length 4 4)

  l₂ : length a₂ ≡ 40
  l₂ = length-append a₁ C ∙ omega (arith, l₁)

  l₃ : length a₃ ≡ 1128
  l₃ = length-append a₂ S ∙ omega (arith, l₂)

  l₄ : length a₄ ≡ 1132
  l₄ = length-append a₃ (bytes 4 6) ∙ omega (arith, l₃, bytes_length 4 6)

  size : length a₅ ≡ 1452
  size = length-append a₄ P ∙ omega (arith, l₄)

  leaf_at : q < 2 ^ 32 → leaf a₅ ≡ q
  leaf_at h =
      u32_front a₄ P 0 (omega (arith, l₄))
      ∙ u32_front a₃ (bytes 4 6) 0 (omega (arith, l₃))
      ∙ u32_front a₂ S 0 (omega (arith, l₂))
      ∙ u32_front a₁ C 0 (omega (arith, l₁))
      ∙ u32_front (bytes 4 q) (bytes 4 4) 0 (omega (arith, l₀))
      ∙ u32_last [] q 0 refl h

  one_time_at : one_time_type a₅ ≡ 4
  one_time_at =
      u32_front a₄ P 4 (omega (arith, l₄))
      ∙ u32_front a₃ (bytes 4 6) 4 (omega (arith, l₃))
      ∙ u32_front a₂ S 4 (omega (arith, l₂))
      ∙ u32_front a₁ C 4 (omega (arith, l₁))
      ∙ u32_last (bytes 4 q) 4 4 l₀ (omega arith)

  nonce_at : nonce a₅ ≡ C
  nonce_at =
      part_front a₄ P 8 32 (omega (arith, l₄))
      ∙ part_front a₃ (bytes 4 6) 8 32 (omega (arith, l₃))
      ∙ part_front a₂ S 8 32 (omega (arith, l₂))
      ∙ part_last a₁ C 8 32 l₁ lC

  type_at : tree_type a₅ ≡ 6
  type_at = u32_front a₄ P 1128 (omega (arith, l₄)) ∙ u32_last a₃ 6 1128 l₃ (omega arith)

  string_at : (i : ℕ) → i < 34 → string a₅ i ≡ part S (32 * i) 32
  string_at i h =
      part_front a₄ P (40 + 32 * i) 32 (omega (arith, l₄))
      ∙ part_front a₃ (bytes 4 6) (40 + 32 * i) 32 (omega (arith, l₃))
      ∙ part_behind a₂ S 40 (32 * i) 32 l₂

  path_at : (i : ℕ) → part a₅ (1132 + 32 * i) 32 ≡ part P (32 * i) 32
  path_at i = part_behind a₄ P 1132 (32 * i) 32 l₄

-- ---- what stands where in a key

module _ (seed I : List ℕ) (lI : length I ≡ 16) where
  abbrev b₁ : List ℕ
  b₁ = bytes 4 6 ++ bytes 4 4

  abbrev b₂ : List ℕ
  b₂ = b₁ ++ I

  k₁ : length b₁ ≡ 8
  k₁ = length-append (bytes 4 6) (bytes 4 4) ∙ omega (arith, bytes_length 4 6, bytes_length 4 4)

  k₂ : length b₂ ≡ 24
  k₂ = length-append b₁ I ∙ omega (arith, k₁)

  key_size : length (key_of seed I) ≡ 56
  unfolding key_of
  key_size = length-append b₂ (T seed I 1) ∙ omega (arith, k₂, T_length seed I 1)

  key_type_lem : key_type (key_of seed I) ≡ 6
  unfolding key_of
  key_type_lem =
      u32_front b₂ (T seed I 1) 0 (omega (arith, k₂))
      ∙ u32_front b₁ I 0 (omega (arith, k₁))
      ∙ u32_front (bytes 4 6) (bytes 4 4) 0 (omega (arith, bytes_length 4 6))
      ∙ u32_last [] 6 0 refl (omega arith)

  key_one_time : key_one_time_type (key_of seed I) ≡ 4
  unfolding key_of
  key_one_time =
      u32_front b₂ (T seed I 1) 4 (omega (arith, k₂)) ∙ u32_front b₁ I 4 (omega (arith, k₁)) ∙ u32_last (bytes 4 6) 4 4 (bytes_length 4 6) (omega arith)

  pub key_id : identifier (key_of seed I) ≡ I
  unfolding key_of
  key_id = part_front b₂ (T seed I 1) 8 16 (omega (arith, k₂)) ∙ part_last b₁ I 8 16 k₁ lI

  key_root : root (key_of seed I) ≡ T seed I 1
  unfolding key_of
  key_root = part_last b₂ (T seed I 1) 24 32 k₂ (T_length seed I 1)

-- ---- the check

yes : (a b : Bool) (v : Checked) → a ≡ true → b ≡ true → v.verdict ≡ true → (checked_by a b v).verdict ≡ true
yes true true v p q r = r
yes true false v p q r = absurd (false≢true q)
yes false b v p q r = absurd (false≢true p)

path_part : (s : List ℕ) (i : ℕ) → i < 10 → get_or (path s) i [] ≡ part s (1132 + 32 * i) 32
path_part s zero h = refl
path_part s (suc zero) h = refl
path_part s (suc (suc zero)) h = refl
path_part s (suc (suc (suc zero))) h = refl
path_part s (suc (suc (suc (suc zero)))) h = refl
path_part s (suc (suc (suc (suc (suc zero))))) h = refl
path_part s (suc (suc (suc (suc (suc (suc zero)))))) h = refl
path_part s (suc (suc (suc (suc (suc (suc (suc zero))))))) h = refl
path_part s (suc (suc (suc (suc (suc (suc (suc (suc zero)))))))) h = refl
path_part s (suc (suc (suc (suc (suc (suc (suc (suc (suc zero))))))))) h = refl
path_part s (suc (suc (suc (suc (suc (suc (suc (suc (suc (suc i)))))))))) h = absurd (omega arith)

module _ (seed I C message : List ℕ) (q : ℕ) (lI : length I ≡ 16) (lC : length C ≡ 32) (short : length message ≤ 1024) (inside : q < 1024) where
  abbrev Q : List ℕ
  Q = message_hash I q C message

  abbrev S : List ℕ
  S = row (signed_string seed I q (digits Q)) 34

  abbrev P : List ℕ
  P = row (path_of (nodes_of seed I) q) 10

  abbrev signature : List ℕ
  signature = bytes 4 q ++ bytes 4 4 ++ C ++ S ++ bytes 4 6 ++ P

  abbrev key : List ℕ
  key = key_of seed I

  lS : length S ≡ 1088
  lS = row_length (signed_string seed I q (digits Q)) (λ i. string_length seed I q i _) 34

  path_length : (i : ℕ) → length (path_of (nodes_of seed I) q i) ≡ 32
  path_length i =
      let k : ℕ = (1024 + q) / 2 ^ i in
      kept_length seed I (sibling_of k) (sibling_high k (omega (arith, div-le_self (1024 + q) (2 ^ i))))

  lP : length P ≡ 320
  lP = row_length (path_of (nodes_of seed I) q) path_length 10

  the_leaf : leaf signature ≡ q
  the_leaf = leaf_at C S P q lC lS lP (omega arith)

  formed : well_formed key signature ≡ true
  unfolding well_formed
  formed =
      and_make
      (and_make (eq-eqb _ _ (key_size seed I lI)) (eq-eqb _ _ (size C S P q lC lS lP)))
      (and_make
      (and_make
      (and_make (and_make (eq-eqb _ _ (key_type_lem seed I lI)) (eq-eqb _ _ (key_one_time seed I lI))) (eq-eqb _ _ (type_at C S P q lC lS lP)))
      (eq-eqb _ _ (one_time_at C S P q lC lS lP)))
      (lt-ltb _ _ (subst (λ (k : ℕ). k < 1024) (sym the_leaf) inside)))

  strings : (i : ℕ) → i < 34 → string signature i ≡ string_of seed I q i (get_or (digits Q) i 0)
  strings i h = string_at C S P q lC lS lP i h ∙ row_part (signed_string seed I q (digits Q)) (λ k. string_length seed I q k _) 34 i h

  siblings : (i : ℕ) → i < 10 → get_or (path signature) i [] ≡ T seed I (sibling_of ((1024 + q) / 2 ^ i))
  siblings i h =
      let k : ℕ = (1024 + q) / 2 ^ i in
      path_part signature i h
      ∙ path_at C S P q lC lS lP i
      ∙ row_part (path_of (nodes_of seed I) q) path_length 10 i h
      ∙ kept_at seed I (sibling_of k) (sibling_low k (below_top q i h)) (sibling_high k (omega (arith, div-le_self (1024 + q) (2 ^ i))))

  the_node : leaf_node I (1024 + q) (leaf_key I q Q signature) ≡ T seed I (1024 + q)
  the_node =
      let e : q ≡ 1024 + q - 1024 = omega arith in
      ap (leaf_node I (1024 + q)) (key_full seed I Q signature q (small_digits I C message q) strings ∙ ap (leaf_public seed I) e)
      ∙ sym (T_eq seed I (1024 + q) (omega arith) ∙ leaf_alone seed I (1024 + q) _ _ (omega arith))

  climbed : (I' C' : List ℕ) (q' : ℕ) → I' ≡ I → C' ≡ C → q' ≡ q
      → climb I' (1024 + q') (leaf_node I' (1024 + q') (leaf_key I' q' (message_hash I' q' C' message) signature)) (path signature) 10 ≡ T seed I 1
  climbed I' C' q' eI eC eq =
      let e : climb I' (1024 + q') (leaf_node I' (1024 + q') (leaf_key I' q' (message_hash I' q' C' message) signature)) (path signature) 10
      ≡ climb I (1024 + q) (T seed I (1024 + q)) (path signature) 10 = cc the_node in
      e ∙ climb_root seed I q (path signature) inside siblings

  passing : (check_of key message signature).verdict ≡ true
  unfolding check_of verified_of
  passing =
      yes (leb (length message) 1024) (well_formed key signature) (verified_of key message signature) (le-leb _ _ short) formed
      (ap (λ (x : List ℕ). same x (root key)) (climbed (identifier key) (nonce signature) (leaf signature) (key_id seed I lI) (nonce_at C S P q lC lS lP) the_leaf ∙ sym (key_root seed I lI))
      ∙ same_refl (root key))

  -- A signature with leaf q passes the check.
  pub passes : (check_of (key_of seed I) message (signature_of seed I (nodes_of seed I) q C message)).verdict ≡ true
  unfolding signature_of
  passes = passing

  pub leaf_of : leaf (signature_of seed I (nodes_of seed I) q C message) ≡ q
  unfolding signature_of
  leaf_of = the_leaf
