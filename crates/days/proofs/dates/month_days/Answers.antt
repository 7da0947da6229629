use Rattle.calendar.specs.Calendar.{month_days}
use Rattle.days.proofs.dates.month_days.Goals as goal

pub returns-in-2 : goal.returns-in-2
unfolding month_days
returns-in-2 c = rw (c.in-2.is, ← c.is_leap.ensures, c.if-is_leap.true)

pub returns-in-2-2 : goal.returns-in-2-2
unfolding month_days
returns-in-2-2 c = rw (c.in-2.is, ← c.is_leap.ensures, c.if-is_leap.false)
