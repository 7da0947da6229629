-- After n turns the run is what they wrote, and then the run from there.
use Rattle.std.proofs.Common.{length, ◌-◌}
use Rattle.journal.specs.Runs.{run_of}
use Rattle.journal.proofs.Running.{Reached}
use Rattle.journal.proofs.runs.run.Given as goal

abbrev pub invariant-loop-end : goal.invariant-loop-end
invariant-loop-end l = Reached l.commands (length l.fn.lines) (run_of l.fn.book l.commands l.fn.lines) l.at l.n l.book l.lines

abbrev pub decreases-loop-end : goal.decreases-loop-end
decreases-loop-end l = length l.fn.lines - l.n
