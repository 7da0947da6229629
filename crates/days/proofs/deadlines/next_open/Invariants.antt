use Rattle.calendar.proofs.NextDay.{Passed}
use Rattle.days.proofs.deadlines.next_open.Given as goal

abbrev pub invariant-loop-shut : goal.invariant-loop-shut
invariant-loop-shut l = Passed l.listed l.day l.«open» l.shut-index
