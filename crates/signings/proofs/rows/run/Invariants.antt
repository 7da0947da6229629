use Rattle.std.proofs.Common.{length}
use Rattle.signings.proofs.rows.run.Given as goal

abbrev pub decreases-loop-row : goal.decreases-loop-row
decreases-loop-row g l = length l.rest
