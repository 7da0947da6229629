-- Before each turn what was printed and what is left are the statement.
use Rattle.std.proofs.Common.{ℕ, ◌-◌, List, length}
use Rattle.std.specs.Io.KnownBytes.{Appends}
use Rattle.report.proofs.Ahead.{Ahead}
use Rattle.statement.proofs.printing.print_statement.Given as goal

abbrev pub invariant-loop-reached : goal.invariant-loop-reached
invariant-loop-reached g l = (said : List ℕ) × Ahead l.input said l.from × Appends (g.W.Write.contents l.initial.output) (g.W.Write.contents l.output) said

abbrev pub decreases-loop-reached : goal.decreases-loop-reached
decreases-loop-reached g l = length l.input - l.from.used
