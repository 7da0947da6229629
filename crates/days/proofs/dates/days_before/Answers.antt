use Rattle.calendar.proofs.Counting.{after_leap_day, no_leap_day}
use Rattle.days.proofs.dates.days_before.Goals as goal

pub returns-then-month-is_leap-clause-value : goal.returns-then-month-is_leap-clause-value
returns-then-month-is_leap-clause-value c = after_leap_day _ _ c.is_leap.ensures _ c.requires c.if-month-is_leap.true

pub returns-else-month-is_leap-clause-value : goal.returns-else-month-is_leap-clause-value
returns-else-month-is_leap-clause-value c = no_leap_day _ _ c.is_leap.ensures _ c.requires c.if-month-is_leap.false
