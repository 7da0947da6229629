use Rattle.calendar.proofs.NextDay.{banked_stays, banked_moves}
use Rattle.days.proofs.lists.ShutDays.banked.Goals as goal

pub returns-then-open-day : goal.returns-then-open-day
returns-then-open-day c = banked_stays _ _ _ (rw (← c.listed.ensures) c.next_open-open.ensures.value) c.if-open-day.true

pub returns-else-open-day : goal.returns-else-open-day
returns-else-open-day c = banked_moves _ _ _ (rw (← c.listed.ensures) c.next_open-open.ensures.value) c.if-open-day.false
