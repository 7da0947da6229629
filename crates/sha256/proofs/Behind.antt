-- Laws of a hash value as bytes: read off a string, and hashed again behind 23 bytes.
use Prim.Native.Nat.{ℕ, ◌+◌, ◌-◌, ◌*◌, ◌/◌, ◌%◌, ◌^◌, ◌≤◌, ◌<◌}
use native.Mathlib.Omega.{arith}
use mathlib.Core.Path.{◌≡◌, refl, ap, sym, ◌∙◌}
use mathlib.Core.List.{List, [], ◌∷◌, ◌++◌, append_assoc}
use lib.Bits.{bit_or}
use Rattle.std.proofs.lemmas.Nat.{or_shifted}
use lib.ListN.{length, take, drop, get_or, length-append, length-drop, get_or-append}
use lib.Seq.{take_all, take-suc, take-add, drop-drop, get_or-drop, get_or-append-add}
use Rattle.wire.specs.Numbers.{bytes, u32_at}
use Rattle.wire.specs.Parts.{part}
use Rattle.wire.proofs.Laws.{both, four, u32_front, u32_behind}
use Rattle.sha256_block.specs.declared.rounds.Variables.{Variables}
use Rattle.sha256_block.specs.Block.{words, compress_words, compress_of}
use Rattle.sha256.specs.Padding.{padding, padded}
use Rattle.sha256.specs.Digest.{H⁰, digest_of, sha256}
use Rattle.sha256.proofs.Single.{single, single_length}

-- A word of the last three bytes of x and the first of y.
abbrev pub joint : ℕ → ℕ → ℕ
joint x y = x % 2 ^ 24 * 2 ^ 8 + y / 2 ^ 24 % 2 ^ 8

-- So it is by shifts.
pub joined_is : (x y : ℕ) → y < 2 ^ 32 → bit_or (x * 2 ^ 8 % 2 ^ 32) (y / 2 ^ 24) ≡ x % 2 ^ 24 * 2 ^ 8 + y / 2 ^ 24 % 2 ^ 8
joined_is x y h =
    let a : x * 2 ^ 8 % 2 ^ 32 ≡ x % 2 ^ 24 * 2 ^ 8 = omega arith in
    let b : y / 2 ^ 24 ≡ y / 2 ^ 24 % 2 ^ 8 = omega arith in
    ap (λ (n : ℕ). bit_or n (y / 2 ^ 24)) a ∙ or_shifted (x % 2 ^ 24) 8 (y / 2 ^ 24) (omega arith) ∙ ap (λ (n : ℕ). x % 2 ^ 24 * 2 ^ 8 + n) b

-- The last three bytes of x, one by one: y, z and w are x without its last one, two and three.
three : (x y z w : ℕ) → y ≡ x / 2 ^ 8 → z ≡ y / 2 ^ 8 → w ≡ z / 2 ^ 8 → x % 2 ^ 24 * 2 ^ 8 ≡ z % 256 * 2 ^ 24 + y % 256 * 2 ^ 16 + x % 256 * 2 ^ 8
three x y z w p q r =
    let a : x ≡ 2 ^ 8 * y + x % 256 = omega arith in
    let b : y ≡ 2 ^ 8 * z + y % 256 = omega arith in
    let c : z ≡ 2 ^ 8 * w + z % 256 = omega arith in
    let d : x ≡ 2 ^ 24 * w + (2 ^ 16 * (z % 256) + 2 ^ 8 * (y % 256) + x % 256) = omega (arith, a, b, c) in
    let e : x % 2 ^ 24 ≡ 2 ^ 16 * (z % 256) + 2 ^ 8 * (y % 256) + x % 256 = omega (arith, d) in
    omega (arith, e)

spelled : (x y : ℕ) → joint x y ≡ x / 2 ^ 16 % 256 * 2 ^ 24 + x / 2 ^ 8 % 256 * 2 ^ 16 + x / 1 % 256 * 2 ^ 8 + y / 2 ^ 24 % 256
spelled x y =
    let z : x / 2 ^ 8 / 2 ^ 8 ≡ x / 2 ^ 16 = omega arith in
    let o : x % 256 ≡ x / 1 % 256 = omega arith in
    ap (λ (n : ℕ). n + y / 2 ^ 24 % 256) (three x (x / 2 ^ 8) (x / 2 ^ 8 / 2 ^ 8) _ refl refl refl)
    ∙ four _ _ _ _ _ _ _ _ (ap (λ (n : ℕ). n % 256) z) refl o refl

module _ (f : List ℕ) (v : Variables) (l : length f ≡ 23) where
  -- What stands behind the 23 bytes.
  abbrev rest : List ℕ
  rest = digest_of v ++ padding 55

  size : length (f ++ digest_of v) ≡ 55
  unfolding digest_of bytes
  size = length-append f (digest_of v) ∙ omega arith

  whole : padded (f ++ digest_of v) ≡ f ++ rest
  unfolding padded
  whole = ap (λ (n : ℕ). (f ++ digest_of v) ++ padding n) size ∙ append_assoc f (digest_of v) (padding 55)

  -- The last of the 23 bytes, and the first of the hash value.
  seam : (x : ℕ) → x ≡ get_or f 20 0 * 2 ^ 24 + get_or f 21 0 * 2 ^ 16 + get_or f 22 0 * 2 ^ 8 + v.a / 2 ^ 24 → v.a < 2 ^ 32 → x ≡ u32_at (f ++ rest) 20
  unfolding u32_at digest_of bytes
  seam x e h =
      let a : v.a / 2 ^ 24 ≡ v.a / 2 ^ 24 % 256 = omega arith in
      let b : get_or (f ++ rest) (23 + 0) 0 ≡ get_or rest 0 0 = ap (λ (n : ℕ). get_or (f ++ rest) (n + 0) 0) (sym l) ∙ get_or-append-add f rest 0 0 in
      e
      ∙ four _ _ _ _ _ _ _ _ (sym (get_or-append f rest 0 20 (omega arith))) (sym (get_or-append f rest 0 21 (omega arith)))
      (sym (get_or-append f rest 0 22 (omega arith))) (a ∙ sym b)

  -- The words of the block.
  pub block_words : (x₀ x₁ x₂ x₃ x₄ x₅ : ℕ) → x₀ ≡ u32_at f 0 → x₁ ≡ u32_at f 4 → x₂ ≡ u32_at f 8 → x₃ ≡ u32_at f 12 → x₄ ≡ u32_at f 16
      → x₅ ≡ get_or f 20 0 * 2 ^ 24 + get_or f 21 0 * 2 ^ 16 + get_or f 22 0 * 2 ^ 8 + v.a / 2 ^ 24 → v.a < 2 ^ 32
      → x₀ ∷ x₁ ∷ x₂ ∷ x₃ ∷ x₄ ∷ x₅ ∷ joint v.a v.b ∷ joint v.b v.c ∷ joint v.c v.d ∷ joint v.d v.e ∷ joint v.e v.f
      ∷ joint v.f v.g ∷ joint v.g v.h ∷ joint v.h 0x80000000 ∷ 0 ∷ 440 ∷ [] ≡ words (padded (f ++ digest_of v))
  unfolding words u32_at digest_of bytes padding
  block_words x₀ x₁ x₂ x₃ x₄ x₅ e₀ e₁ e₂ e₃ e₄ e₅ h =
      let front : (at : ℕ) → at + 4 ≤ 23 → u32_at f at ≡ u32_at (f ++ rest) at = λ at k. sym (u32_front f rest at (omega arith)) in
      let behind : (k : ℕ) → u32_at rest k ≡ u32_at (f ++ rest) (23 + k) = λ k. sym (u32_behind f rest 23 k l) in
      cc (
        sym (ap words whole),
        e₀ ∙ front 0 (omega arith),
        e₁ ∙ front 4 (omega arith),
        e₂ ∙ front 8 (omega arith),
        e₃ ∙ front 12 (omega arith),
        e₄ ∙ front 16 (omega arith),
        seam x₅ e₅ h,
        spelled v.a v.b ∙ behind 1,
        spelled v.b v.c ∙ behind 5,
        spelled v.c v.d ∙ behind 9,
        spelled v.d v.e ∙ behind 13,
        spelled v.e v.f ∙ behind 17,
        spelled v.f v.g ∙ behind 21,
        spelled v.g v.h ∙ behind 25,
        spelled v.h 0x80000000 ∙ behind 29,
        behind 33,
        behind 37,
      )

  -- So the hash value after that block is the digest's.
  pub hashed_again : (ws : List ℕ) (h r : Variables) → ws ≡ words (padded (f ++ digest_of v)) → h ≡ H⁰ → r ≡ compress_words h ws → digest_of r ≡ sha256 (f ++ digest_of v)
  unfolding compress_of
  hashed_again ws h r e p q =
      let m : List ℕ = f ++ digest_of v in
      let t : take 64 (padded m) ≡ padded m = take_all 64 (padded m) (omega (arith, single_length m (omega (arith, size)))) in
      single m (padded m) (omega (arith, size)) refl p (q ∙ ap (compress_words h) (e ∙ ap words (sym t))) refl

-- Four bytes are those of their number.
quad : (a b c d : ℕ) → a < 256 → b < 256 → c < 256 → d < 256 → bytes 4 (a * 2 ^ 24 + b * 2 ^ 16 + c * 2 ^ 8 + d) ≡ a ∷ b ∷ c ∷ d ∷ []
unfolding bytes
quad a b c d ha hb hc hd =
    let x : ℕ = a * 2 ^ 24 + b * 2 ^ 16 + c * 2 ^ 8 + d in
    let p : x / 2 ^ 24 ≡ a = omega arith in
    let q : x / 2 ^ 16 ≡ 2 ^ 8 * a + b = omega arith in
    let r : x / 2 ^ 8 ≡ 2 ^ 16 * a + 2 ^ 8 * b + c = omega arith in
    let s : x / 1 ≡ x = omega arith in
    both (omega (arith, p)) (both (omega (arith, q)) (both (omega (arith, r)) (both (omega (arith, s)) refl)))

module _ (s : List ℕ) (small : (k : ℕ) → get_or s k 0 < 256) where
  -- Four bytes of s.
  bytes_at : (at : ℕ) → at + 4 ≤ length s → bytes 4 (u32_at s at) ≡ part s at 4
  unfolding u32_at
  bytes_at at h =
      let l : List ℕ = drop at s in
      let g : (k : ℕ) → get_or s (at + k) 0 ≡ get_or l k 0 = λ k. sym (get_or-drop at s k 0) in
      let n : length l ≡ length s - at = length-drop at s in
      let z : at + 0 ≡ at = omega arith in
      let spelt : take 4 l ≡ get_or l 0 0 ∷ get_or l 1 0 ∷ get_or l 2 0 ∷ get_or l 3 0 ∷ [] =
      take-suc l 3 0 (omega arith)
      ∙ ap (λ (x : List ℕ). x ++ get_or l 3 0 ∷ []) (take-suc l 2 0 (omega arith) ∙ ap (λ (x : List ℕ). x ++ get_or l 2 0 ∷ []) (take-suc l 1 0 (omega arith) ∙ ap (λ (x : List ℕ). x ++ get_or l 1 0 ∷ []) (take-suc l 0 0 (omega arith)))) in
      quad _ _ _ _ (small at) (small (at + 1)) (small (at + 2)) (small (at + 3))
      ∙ both (ap (λ (k : ℕ). get_or s k 0) (sym z) ∙ g 0) (both (g 1) (both (g 2) (both (g 3) refl)))
      ∙ sym spelt

  -- And four more.
  more_at : (at n m : ℕ) (x : List ℕ) → at + n ≡ m → m + 4 ≤ length s → x ≡ part s at n → x ++ bytes 4 (u32_at s m) ≡ part s at (n + 4)
  more_at at n m x e h p =
      ap (λ (y : List ℕ). y ++ bytes 4 (u32_at s m)) p
      ∙ ap (λ (y : List ℕ). part s at n ++ y) (bytes_at m h ∙ ap (λ (k : ℕ). part s k 4) (sym e) ∙ ap (take 4) (sym (drop-drop n at s)))
      ∙ sym (take-add n 4 (drop at s))

  -- The hash value in 32 bytes of s.
  pub value_in : (at : ℕ) (v : Variables) → at + 32 ≤ length s → v.a ≡ u32_at s at → v.b ≡ u32_at s (at + 4) → v.c ≡ u32_at s (at + 8) → v.d ≡ u32_at s (at + 12)
      → v.e ≡ u32_at s (at + 16) → v.f ≡ u32_at s (at + 20) → v.g ≡ u32_at s (at + 24) → v.h ≡ u32_at s (at + 28) → digest_of v ≡ part s at 32
  unfolding digest_of
  value_in at v h a b c d e f g i =
      let w : (x y : ℕ) → x ≡ y → bytes 4 x ≡ bytes 4 y = λ x y p. ap (bytes 4) p in
      cc (w _ _ a, w _ _ b, w _ _ c, w _ _ d, w _ _ e, w _ _ f, w _ _ g, w _ _ i)
      ∙ more_at at 28 (at + 28) _ refl (omega arith) (more_at at 24 (at + 24) _ refl (omega arith) (more_at at 20 (at + 20) _ refl (omega arith)
      (more_at at 16 (at + 16) _ refl (omega arith) (more_at at 12 (at + 12) _ refl (omega arith) (more_at at 8 (at + 8) _ refl (omega arith)
      (more_at at 4 (at + 4) _ refl (omega arith) (bytes_at at (omega arith))))))))
