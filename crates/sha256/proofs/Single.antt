-- Laws of a message that is one block with its padding.
use Prim.Native.Nat.{ℕ, ◌/◌, ◌≤◌}
use native.Mathlib.Omega.{arith}
use mathlib.Core.Path.{◌≡◌, ap, ◌∙◌}
use mathlib.Core.List.{List}
use lib.ListN.{length, take}
use Rattle.sha256_block.specs.declared.rounds.Variables.{Variables}
use Rattle.sha256_block.specs.Block.{compress_of}
use Rattle.sha256.specs.Padding.{padded}
use Rattle.sha256.specs.Digest.{H⁰, hashed, block_of, digest_of, sha256}
use Rattle.sha256.proofs.Laws.{hashed_step}
use Rattle.sha256.proofs.Ending.{padded_length}

pub single_length : (m : List ℕ) → length m ≤ 55 → length (padded m) ≡ 64
single_length m h = omega (arith, padded_length m)

-- The digest of the one block.
pub single : (m b : List ℕ) {h v : Variables} {r : List ℕ} → length m ≤ 55 → b ≡ padded m → h ≡ H⁰ → v ≡ compress_of h (take 64 b) → r ≡ digest_of v → r ≡ sha256 m
unfolding sha256 hashed
single m b {h} small eb eh ev er =
    let l : length (padded m) ≡ 64 = single_length m small in
    let k : 1 ≡ length (padded m) / 64 = omega arith in
    let block : take 64 b ≡ block_of 0 (padded m) = ap (take 64) eb in
    er ∙ ap digest_of (hashed_step 0 (padded m) (take 64 b) eh block ev ∙ ap (λ (i : ℕ). hashed i (padded m)) k)
