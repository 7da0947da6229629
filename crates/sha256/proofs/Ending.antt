-- Laws of the padding, and of what is left when it was fed.
use Prim.Native.Nat.{ℕ, suc, ◌+◌, ◌-◌, ◌*◌, ◌/◌, ◌≤◌}
use native.Mathlib.Omega.{arith}
use mathlib.Core.Path.{◌≡◌, ap, ◌∙◌, sym}
use mathlib.Core.List.{List, ◌∷◌, ◌++◌, append_assoc}
use lib.ListN.{length, take, replicate, length-append, length-replicate, replicate-append-replicate}
use lib.Seq.{take_at}
use Rattle.sha256.specs.declared.state.Sha256.{Sha256}
use Rattle.wire.specs.Numbers.{bytes}
use Rattle.wire.proofs.Laws.{bytes_length}
use Rattle.sha256.specs.Padding.{zeros, Fewest, padding, padded}
use Rattle.sha256.specs.Digest.{hashed, digest_of, sha256}
use Rattle.sha256.specs.State.{Taken, Fed}

pub zeros_fewest : (n : ℕ) → Fewest n (zeros n)
zeros_fewest n = record { whole = omega arith; fewest = λ y h. omega arith }

-- The bit 1 and z zeros.
abbrev pub marked : ℕ → List ℕ
marked z = 0x80 ∷ replicate z 0

marked_length : (z : ℕ) → length (marked z) ≡ suc z
marked_length z = ap suc (length-replicate {A = ℕ} z 0)

-- The first bytes of the longest mark are a mark.
pub shorter : (x : List ℕ) (z k : ℕ) → x ≡ marked 63 → z ≤ 63 → k ≡ suc z → take k x ≡ marked z
shorter x z k e h n =
    let s : 63 ≡ z + (63 - z) = omega arith in
    ap (take k) e
    ∙ ap (λ (i : ℕ). take i (marked 63)) n
    ∙ ap (λ (l : List ℕ). 0x80 ∷ take z l) (ap (λ (i : ℕ). replicate i 0) s ∙ sym (replicate-append-replicate z (63 - z) 0))
    ∙ ap (λ (l : List ℕ). 0x80 ∷ l) (take_at (replicate z 0) (replicate (63 - z) 0) z (length-replicate {A = ℕ} z 0))

-- A message with the two parts of its padding behind it.
pub ended : (m q b : List ℕ) (n : ℕ) → n ≡ length m → q ≡ marked (zeros n) → b ≡ bytes 8 (8 * n) → m ++ (q ++ b) ≡ padded m
unfolding padded padding
ended m q b n c eq eb =
    ap (λ (l : List ℕ). m ++ (l ++ b)) eq ∙ ap (λ (l : List ℕ). m ++ (marked (zeros n) ++ l)) eb ∙ ap (λ (i : ℕ). m ++ (marked (zeros i) ++ bytes 8 (8 * i))) c

pub padded_length : (m : List ℕ) → length (padded m) ≡ length m + (zeros (length m) + 9)
unfolding padded padding
padded_length m =
    let n : ℕ = length m in
    omega (arith, length-append m (padding n), length-append (marked (zeros n)) (bytes 8 (8 * n)), marked_length (zeros n), bytes_length 8 (8 * n))

-- The digest is of the hash value after the message, the mark and the length.
pub finished : (s t r : Sha256) (m q b : List ℕ) → Taken s m → Fed s q t → Fed t b r → q ≡ marked (zeros s.n) → b ≡ bytes 8 (8 * s.n) → digest_of r.h ≡ sha256 m
unfolding sha256
finished s t r m q b k f g eq eb =
    let e : (m ++ q) ++ b ≡ padded m = append_assoc m q b ∙ ended m q b s.n k.count eq eb in
    let v : r.h ≡ hashed (length ((m ++ q) ++ b) / 64) ((m ++ q) ++ b) = (g.taken (m ++ q) (f.taken m k)).value in
    ap digest_of (v ∙ ap (λ (l : List ℕ). hashed (length l / 64) l) e)
