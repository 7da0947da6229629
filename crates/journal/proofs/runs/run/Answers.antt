use Rattle.std.proofs.Common.{arith, rules}
use Rattle.journal.proofs.Running.{has_line, has_bytes, turned, ended}
use Rattle.journal.proofs.runs.run.Goals as goal

pub slice_bounds-apply-end : goal.slice_bounds-apply-end
slice_bounds-apply-end c = let h = has_bytes c.loop-end.invariant c.in-Ok.end c.in-Ok.ensures in search rules

pub bounds-lines-n : goal.bounds-lines-n
bounds-lines-n c = has_line c.loop-end.invariant c.in-Ok.end c.in-Ok.ensures

pub loop-end-smaller : goal.loop-end-smaller
loop-end-smaller c = let h = has_line c.loop-end.invariant c.in-Ok.end c.in-Ok.ensures in omega arith

pub loop-end-preserved : goal.loop-end-preserved
loop-end-preserved c = turned c.loop-end.invariant c.in-Ok.end c.in-Ok.ensures c.apply-answer.new.book c.apply-answer.result c.apply-answer.ensures

pub returns : goal.returns
returns c = rw c.into.ensures (ended c.loop-end.invariant c.in-Err.cause c.in-Err.ensures)
