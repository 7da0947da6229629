use Rattle.std.proofs.Common.{◌∙◌}
use Rattle.calendar.proofs.Counting.{number_of, number_no}
use Rattle.days.proofs.dates.day_number.Goals as goal

pub returns-in-Ok : goal.returns-in-Ok
returns-in-Ok c = c.number.ensures ∙ number_of _ c.args.x c.in-Ok.ensures c.in-Ok.date.there

pub returns-in-Err : goal.returns-in-Err
returns-in-Err c = number_no _ c.in-Err.ensures
