-- Laws of a state that takes in more, one for each way through `feed`.
use Prim.Native.Nat.{ℕ, zero, suc, ◌+◌, ◌-◌, ◌*◌, ◌/◌, ◌%◌, ◌≤◌, ◌<◌}
use native.Mathlib.Omega.{arith}
use mathlib.Core.Path.{◌≡◌, refl, ap, ◌∙◌, sym}
use mathlib.Core.List.{List, [], ◌++◌}
use lib.ListN.{length, take, drop, get_or, length-append, length-drop, length-take}
use lib.Seq.{paste, take_all, length-take-le, drop-drop, take-append-add, drop-append-le, drop-append-add}
use Rattle.std.specs.Simd.{first_chunks}
use Rattle.sha256_block.specs.declared.rounds.Variables.{Variables}
use Rattle.sha256_block.specs.Block.{compress_of}
use Rattle.sha256.specs.declared.state.Sha256.{Sha256}
use Rattle.sha256.specs.Digest.{hashed, block_of}
use Rattle.sha256.specs.State.{Taken, Fed}
use Rattle.sha256.proofs.Laws.{front, hashed_front, hashed_step}

-- A state that has taken in m holds the bytes after m's whole blocks.
pub left : (s : Sha256) (m : List ℕ) → Taken s m → length (drop (64 * (length m / 64)) m) ≡ s.n % 64
left s m t = omega (arith, length-drop (64 * (length m / 64)) m, t.count)

-- The first part that is fed is all that was taken in.
pub fed : (s t : Sha256) (m : List ℕ) → Taken s [] → Fed s m t → Taken t m
fed s t m n f = f.taken [] n

small_mod : (n p r : ℕ) → n % 64 + p < 64 → r ≡ n + p → r % 64 ≡ n % 64 + p
small_mod n p r h e = omega arith

-- A part that fills no block.
pub short : (s r : Sha256) (m part : List ℕ) → Taken s m → s.n % 64 + length part < 64 → r.h ≡ s.h → r.n ≡ s.n + length part
    → r.buf ≡ paste s.buf (s.n % 64) part (length part) → Taken r (m ++ part)
short s r m part t small eh en eb =
    let l : length (m ++ part) ≡ length m + length part = length-append m part in
    let c : s.n ≡ length m = t.count in
    let k : length (m ++ part) / 64 ≡ length m / 64 = omega arith in
    let j : r.n % 64 ≡ s.n % 64 + length part = small_mod s.n (length part) r.n small en in
    record {
      count = omega arith;
      value = eh ∙ t.value ∙ sym (hashed_front (length m / 64) m part (omega arith)) ∙ ap (λ (i : ℕ). hashed i (m ++ part)) (sym k);
      rest =
          ap (λ (i : ℕ). take i r.buf) j
          ∙ ap (take (s.n % 64 + length part)) eb
          ∙ front s.buf (drop (64 * (length m / 64)) m) part (s.n % 64) t.rest (left s m t)
          ∙ sym (drop-append-le (64 * (length m / 64)) m part (omega arith))
          ∙ ap (λ (i : ℕ). drop (64 * i) (m ++ part)) (sym k);
    }

-- The first bytes of a part fill the block that was begun.
pub filled : (s : Sha256) (m part q b : List ℕ) {r : Variables} → Taken s m → 64 ≤ s.n % 64 + length part → q ≡ take (64 - s.n % 64) part
    → b ≡ paste s.buf (s.n % 64) q (length q) → r ≡ compress_of s.h (take 64 b) → r ≡ hashed ((s.n + (64 - s.n % 64)) / 64) (m ++ part)
filled s m part q b t big e eb er =
    let c : s.n ≡ length m = t.count in
    let k : ℕ = length m / 64 in
    let p : List ℕ = drop (64 * k) m in
    let lp : length p ≡ s.n % 64 = left s m t in
    let lq : length q ≡ 64 - s.n % 64 = ap length e ∙ length-take-le (64 - s.n % 64) part (omega arith) in
    let e₁ : 64 ≡ s.n % 64 + length q = omega arith in
    let e₂ : 64 ≡ length p + (64 - s.n % 64) = omega arith in
    let filling : take 64 b ≡ p ++ q =
    ap (λ (i : ℕ). take i b) e₁ ∙ ap (take (s.n % 64 + length q)) eb ∙ front s.buf p q (s.n % 64) t.rest lp in
    let block : block_of k (m ++ part) ≡ p ++ q =
    ap (take 64) (drop-append-le (64 * k) m part (omega arith))
    ∙ ap (λ (i : ℕ). take i (p ++ part)) e₂
    ∙ take-append-add p part (64 - s.n % 64)
    ∙ ap (λ (x : List ℕ). p ++ x) (sym e) in
    let n : suc k ≡ (s.n + (64 - s.n % 64)) / 64 = omega arith in
    hashed_step k (m ++ part) (take 64 b) (t.value ∙ sym (hashed_front k m part (omega arith))) (filling ∙ sym block) er
    ∙ ap (λ (i : ℕ). hashed i (m ++ part)) n

-- Block j of the blocks of a list.
chunk_at : (k j : ℕ) (l d : List ℕ) → j < k → get_or (first_chunks 64 k l) j d ≡ take 64 (drop (64 * j) l)
chunk_at zero j l d h = absurd (omega arith)
chunk_at (suc k) zero l d h = refl
chunk_at (suc k) (suc j) l d h =
    let e : 64 + 64 * j ≡ 64 * suc j = omega arith in
    chunk_at k j (drop 64 l) d (omega arith) ∙ ap (take 64) (drop-drop (64 * j) 64 l) ∙ ap (λ (i : ℕ). take 64 (drop i l)) e

-- And in the list that the blocks are behind.
pub block_in : (part rest d : List ℕ) (blocks : List (List ℕ)) (room k j : ℕ) → rest ≡ drop room part → blocks ≡ first_chunks 64 k rest → j < k
    → take 64 (get_or blocks j d) ≡ take 64 (drop (room + 64 * j) part)
block_in part rest d blocks room k j e f h =
    let b : get_or blocks j d ≡ take 64 (drop (room + 64 * j) part) =
    ap (λ (x : List (List ℕ)). get_or x j d) f ∙ chunk_at k j rest d h ∙ ap (λ (l : List ℕ). take 64 (drop (64 * j) l)) e ∙ ap (take 64) (drop-drop (64 * j) room part) in
    ap (take 64) b ∙ take_all 64 (take 64 (drop (room + 64 * j) part)) (omega (arith, length-take 64 (drop (room + 64 * j) part)))

-- A whole block of a part.
pub whole : (m part : List ℕ) (n i : ℕ) {h r : Variables} → length m ≡ n → (n + i) % 64 ≡ 0 → h ≡ hashed ((n + i) / 64) (m ++ part)
    → r ≡ compress_of h (take 64 (drop i part)) → r ≡ hashed ((n + (i + 64)) / 64) (m ++ part)
whole m part n i c z eh er =
    let k : ℕ = (n + i) / 64 in
    let e : length m + i ≡ 64 * k = omega arith in
    let block : take 64 (drop i part) ≡ block_of k (m ++ part) = ap (take 64) (sym (drop-append-add m part i) ∙ ap (λ (j : ℕ). drop j (m ++ part)) e) in
    let s : suc k ≡ (n + (i + 64)) / 64 = omega arith in
    hashed_step k (m ++ part) (take 64 (drop i part)) eh block er ∙ ap (λ (j : ℕ). hashed j (m ++ part)) s

-- What is left of a part goes to the front of the next block.
pub long : (s r : Sha256) (m part q b : List ℕ) (i : ℕ) → Taken s m → r.n ≡ s.n + length part → i ≤ length part → length part - i < 64 → (s.n + i) % 64 ≡ 0
    → r.h ≡ hashed ((s.n + i) / 64) (m ++ part)
    → q ≡ drop i part → r.buf ≡ paste b 0 q (length q) → Taken r (m ++ part)
long s r m part q b i t en le lt z eh eq eb =
    let l : length (m ++ part) ≡ length m + length part = length-append m part in
    let c : s.n ≡ length m = t.count in
    let lq : length q ≡ length part - i = ap length eq ∙ length-drop i part in
    let k : (s.n + i) / 64 ≡ length (m ++ part) / 64 = omega arith in
    let j : r.n % 64 ≡ 0 + length q = omega arith in
    let e : length m + i ≡ 64 * (length (m ++ part) / 64) = omega arith in
    record {
      count = omega arith;
      value = eh ∙ ap (λ (x : ℕ). hashed x (m ++ part)) k;
      rest =
          ap (λ (x : ℕ). take x r.buf) j
          ∙ ap (take (0 + length q)) eb
          ∙ front b [] q 0 refl refl
          ∙ eq
          ∙ sym (drop-append-add m part i)
          ∙ ap (λ (x : ℕ). drop x (m ++ part)) e;
    }
