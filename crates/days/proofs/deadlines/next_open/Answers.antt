use Rattle.std.proofs.Common.{arith}
use Rattle.calendar.proofs.NextDay.{passed_more, passed_all}
use Rattle.days.proofs.deadlines.next_open.Goals as goal

pub loop-shut-preserved : goal.loop-shut-preserved
loop-shut-preserved c = passed_more _ _ _ _ c.loop-shut.invariant (omega arith) _ c.past-open.ensures

pub returns : goal.returns
returns c =
    let all = passed_all _ _ _ _ c.loop-shut.invariant c.loop-shut-test.false (omega arith) _ c.skip.ensures in
    record { value = all.0; upper_bound = all.1 }
