-- With what was fed up to the block, the hash value is that of all whole blocks.
use Rattle.std.proofs.Common.{◌≡◌, ℕ, ◌+◌, ◌*◌, ◌/◌, List, ◌++◌, length}
use Rattle.sha256.specs.Digest.{hashed}
use Rattle.sha256.proofs.state.Sha256.feed.Given as goal

abbrev pub invariant-loop-block : goal.invariant-loop-block
invariant-loop-block l =
    (l.self.n ≡ l.fn.self.n + length l.part) × (length l.self.buf ≡ 64)
    × ((m : List ℕ) → length m ≡ l.fn.self.n → l.initial.self.h ≡ hashed ((l.fn.self.n + l.room) / 64) (m ++ l.part)
    → l.self.h ≡ hashed ((l.fn.self.n + (l.room + 64 * l.block-index)) / 64) (m ++ l.part))
