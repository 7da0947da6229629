-- Laws of chains: a chain walked in two goes; the ends that a signature gives are the whole chains' ends.
use Prim.Native.Nat.{ℕ, zero, suc, ◌+◌, ◌-◌, ◌/◌, ◌%◌, ◌^◌, ◌≤◌, ◌<◌}
use native.Mathlib.Omega.{arith}
use mathlib.Core.Path.{◌≡◌, ap, sym, ◌∙◌}
use mathlib.Core.List.{List, [], ◌∷◌, ◌++◌}
use lib.ListN.{length, get_or}
use Rattle.wire.specs.Numbers.{bytes}
use Rattle.sha256.specs.Digest.{sha256, digest_of}
use Rattle.lms.specs.Layout.{string}
use Rattle.lms.specs.OneTime.{digits, message_hash, chain_step, walk, chain_of, chain_end, end_of, key_of_ends, leaf_key}
use Rattle.lms.proofs.Laws.{digest_length}
use Rattle.signer.proofs.Parts.{row_same}
use Rattle.signer.specs.Strings.{secret_of, string_of, full_end, leaf_public}

-- n steps and then m more.
pub walk_add : (s : List ℕ) (n m j : ℕ) (x : List ℕ) → walk s m (n + j) (walk s n j x) ≡ walk s (n + m) j x
unfolding walk
walk_add s zero m j x =
    let e : 0 + j ≡ j = omega arith in
    let f : m ≡ 0 + m = omega arith in
    ap (λ (k : ℕ). walk s m k x) e ∙ ap (λ (k : ℕ). walk s k j x) f
walk_add s (suc n) m j x =
    let e : suc n + j ≡ n + suc j = omega arith in
    let f : suc (n + m) ≡ suc n + m = omega arith in
    ap (λ (k : ℕ). walk s m k (walk s n (suc j) (chain_step s j x))) e ∙ walk_add s n m (suc j) (chain_step s j x) ∙ ap (λ (k : ℕ). walk s k j x) f

step_length : (s x : List ℕ) (j : ℕ) → length (chain_step s j x) ≡ 32
unfolding chain_step
step_length s x j = digest_length _

walk_length : (s : List ℕ) (n j : ℕ) (x : List ℕ) → length x ≡ 32 → length (walk s n j x) ≡ 32
unfolding walk
walk_length s zero j x l = l
walk_length s (suc n) j x l = walk_length s n (suc j) (chain_step s j x) (step_length s x j)

pub string_length : (seed I : List ℕ) (q i d : ℕ) → length (string_of seed I q i d) ≡ 32
unfolding string_of secret_of
string_length seed I q i d = walk_length (chain_of I q i) d 0 _ (step_length (chain_of I q i) seed 0xff)

-- Digits are bytes.
pub record Small (l : List ℕ) : Type 0 where
  pub at : (i : ℕ) → get_or l i 0 ≤ 255

small_append : {a b : List ℕ} → Small a → Small b → Small (a ++ b)
small_append {a} {b} p r = record { at = go a p.at } where
  go : (a : List ℕ) → ((i : ℕ) → get_or a i 0 ≤ 255) → (i : ℕ) → get_or (a ++ b) i 0 ≤ 255
  go [] h i = r.at i
  go (x ∷ a) h zero = h 0
  go (x ∷ a) h (suc i) = go a (λ k. h (suc k)) i

rest_small : (y : ℕ) → y % 256 ≤ 255
rest_small y = omega arith

bytes_small : (n x i : ℕ) → get_or (bytes n x) i 0 ≤ 255
unfolding bytes
bytes_small zero x i = omega arith
bytes_small (suc n) x zero = rest_small (x / 256 ^ n)
bytes_small (suc n) x (suc i) = bytes_small n x i

small_bytes : (n x : ℕ) → Small (bytes n x)
small_bytes n x = record { at = bytes_small n x }

small_digest : (m : List ℕ) → Small (sha256 m)
unfolding sha256 digest_of
small_digest m =
    small_append
    (small_append
    (small_append
    (small_append
    (small_append (small_append (small_append (small_bytes 4 _) (small_bytes 4 _)) (small_bytes 4 _)) (small_bytes 4 _))
    (small_bytes 4 _))
    (small_bytes 4 _))
    (small_bytes 4 _))
    (small_bytes 4 _)

pub small_digits : (I C message : List ℕ) (q : ℕ) → Small (digits (message_hash I q C message))
unfolding digits message_hash
small_digits I C message q = small_append (small_digest _) (small_bytes 2 _)

module _ (seed I ds signature : List ℕ) (q : ℕ) (small : Small ds)
    (strings : (i : ℕ) → i < 34 → string signature i ≡ string_of seed I q i (get_or ds i 0)) where
  -- The end of chain i from its string on is the end of the whole chain.
  end_full : (i : ℕ) → i < 34 → chain_end I q i (get_or ds i 0) (string signature i) ≡ string_of seed I q i 255
  unfolding chain_end string_of
  end_full i h =
      let d = get_or ds i 0 in
      let s = chain_of I q i in
      let x = secret_of seed I q i in
      let e : d + (255 - d) ≡ 255 = omega (arith, small.at i) in
      let f : d + 0 ≡ d = omega arith in
      ap (walk s (255 - d) d) (strings i h)
      ∙ ap (λ (k : ℕ). walk s (255 - d) k (walk s d 0 x)) (sym f)
      ∙ walk_add s d (255 - d) 0 x
      ∙ ap (λ (k : ℕ). walk s k 0 x) e

-- So the leaf key that the check comes to is the leaf's public value.
pub key_full : (seed I Q signature : List ℕ) (q : ℕ) → Small (digits Q)
    → ((i : ℕ) → i < 34 → string signature i ≡ string_of seed I q i (get_or (digits Q) i 0)) → leaf_key I q Q signature ≡ leaf_public seed I q
unfolding leaf_key leaf_public key_of_ends
key_full seed I Q signature q small strings =
    ap (λ (t : List ℕ). sha256 (I ++ bytes 4 q ++ bytes 2 0x8080 ++ t)) (row_same (end_of I q (digits Q) signature) (full_end seed I q) 34 (end_full seed I (digits Q) signature q small strings))
