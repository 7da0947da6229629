-- After i turns the first i words are the definition's.
use Rattle.std.proofs.Common.{◌≡◌, ◌*◌, length, map, take, drop}
use Rattle.std.specs.List.{range_with_len}
use Rattle.wire.specs.Numbers.{u32_at}
use Rattle.sha256_block.proofs.schedule.block_words.Given as goal

abbrev pub invariant-loop-i : goal.invariant-loop-i
invariant-loop-i l = (length l.w ≡ 16) × (take l.i l.w ≡ map (λ k. u32_at (take 64 (drop l.at l.s)) (4 * k)) (range_with_len 0 l.i))
