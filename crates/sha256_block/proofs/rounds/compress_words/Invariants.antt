-- Before quarter i the rounds that are left, over the words that are left, come to what all 64 come to.
use Rattle.std.proofs.Common.{◌≡◌, ◌-◌, ◌*◌, length, drop}
use Rattle.sha256_block.specs.Constants.{K}
use Rattle.sha256_block.specs.Block.{extended, rounds}
use Rattle.sha256_block.proofs.rounds.compress_words.Given as goal

abbrev pub invariant-loop-i : goal.invariant-loop-i
invariant-loop-i l = (length l.w ≡ 16) × (rounds K (extended 48 l.fn.block) l.fn.h ≡ rounds (drop (16 * l.i) K) (extended (48 - 16 * l.i) l.w) l.v)
