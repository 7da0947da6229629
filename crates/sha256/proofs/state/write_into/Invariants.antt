-- After j turns the first j bytes of part stand in the block.
use Rattle.std.proofs.Common.{length, ◌≡◌, ◌≤◌}
use Rattle.std.proofs.Math.Seq.{paste}
use Rattle.sha256.proofs.state.write_into.Given as goal

abbrev pub invariant-loop-j : goal.invariant-loop-j
invariant-loop-j l = (l.block ≡ paste l.initial.block l.at l.part l.j) × (l.j ≤ length l.part)
