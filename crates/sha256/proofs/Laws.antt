-- Laws of bytes in a row, of bytes written into a block and of the hash value after some blocks.
use Prim.Native.Nat.{ℕ, zero, suc, ◌+◌, ◌*◌, ◌≤◌, ◌<◌}
use native.Mathlib.Omega.{arith}
use mathlib.Core.Path.{◌≡◌, refl, sym, ap, ◌∙◌}
use mathlib.Core.List.{List, [], ◌++◌}
use lib.ListN.{length, take, drop, get_or, length-drop, length-take}
use lib.Seq.{take-length, length-take-le, take-append-le, drop-append-le, take-paste, paste}
use Rattle.std.specs.List.{flat_map}
use Rattle.std.proofs.lemmas.List.{flat_map_more, take_more}
use Rattle.wire.specs.Numbers.{bytes}
use Rattle.wire.proofs.Laws.{bytes_length}
use Rattle.sha256_block.specs.declared.rounds.Variables.{Variables}
use Rattle.sha256_block.specs.Block.{compress_of}
use Rattle.sha256.specs.Digest.{hashed, block_of}

-- What stands in the front of a block, and what is written behind that.
pub front : (b p q : List ℕ) (at : ℕ) → take at b ≡ p → length p ≡ at → take (at + length q) (paste b at q (length q)) ≡ p ++ q
front b p q at e l =
    let h : at ≤ length b = omega (arith, ap length e, length-take at b) in
    take-paste b at q (length q) h (omega arith) ∙ ap (λ (x : List ℕ). x ++ take (length q) q) e ∙ ap (λ (x : List ℕ). p ++ x) (take-length q)

-- One word more behind those that stand in front.
pub word_more : (out next ws p : List ℕ) (i d : ℕ) → i < length ws → 4 * i ≤ length out → take (4 * i) out ≡ flat_map (bytes 4) (take i ws) → p ≡ bytes 4 (get_or ws i d)
    → next ≡ paste out (4 * i) p (length p) → take (4 * (i + 1)) next ≡ flat_map (bytes 4) (take (i + 1) ws)
word_more out next ws p i d h room e ep en =
    let l : length p ≡ 4 = ap length ep ∙ bytes_length 4 (get_or ws i d) in
    let k : 4 * (i + 1) ≡ 4 * i + length p = omega arith in
    ap (λ (n : ℕ). take n next) k
    ∙ ap (take (4 * i + length p)) en
    ∙ front out (flat_map (bytes 4) (take i ws)) p (4 * i) e (ap length (sym e) ∙ length-take-le (4 * i) out room)
    ∙ ap (λ (x : List ℕ). flat_map (bytes 4) (take i ws) ++ x) ep
    ∙ flat_map_more (bytes 4) [] (take i ws) (get_or ws i d)
    ∙ ap (flat_map (bytes 4)) (sym (take_more ws i d h))

-- What follows does not change the hash value after the blocks before.
pub hashed_front : (k : ℕ) (m x : List ℕ) → 64 * k ≤ length m → hashed k (m ++ x) ≡ hashed k m
unfolding hashed
hashed_front zero m x h = refl
hashed_front (suc k) m x h =
    let e : block_of k (m ++ x) ≡ block_of k m =
    ap (take 64) (drop-append-le (64 * k) m x (omega arith)) ∙ take-append-le 64 (drop (64 * k) m) x (omega (arith, length-drop (64 * k) m)) in
    cc (hashed_front k m x (omega arith))

-- One block more.
pub hashed_step : (k : ℕ) (m b : List ℕ) {h r : Variables} → h ≡ hashed k m → b ≡ block_of k m → r ≡ compress_of h b → r ≡ hashed (suc k) m
unfolding hashed
hashed_step k m b p q e = cc
