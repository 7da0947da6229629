-- The sum of the bytes before the next one.
use Rattle.std.proofs.Common.{◌≡◌, ◌*◌, ◌≤◌}
use Rattle.lms.specs.OneTime.{deficit}
use Rattle.lms.proofs.one_time.deficit.Given as goal

abbrev pub invariant-loop-byte : goal.invariant-loop-byte
invariant-loop-byte l = record { so_far : l.sum ≡ deficit l.bytes l.byte-index; most : l.sum ≤ 255 * l.byte-index }
