use Rattle.std.proofs.Common.{arith}
use Rattle.calendar.specs.Calendar.{date}
use Rattle.calendar.proofs.Counting.{exists_parts, date_fits}
use Rattle.days.proofs.dates.Date.number.Goals as goal

pub overflow_add-result-2 : goal.overflow_add-result-2
overflow_add-result-2 c =
    let d = c.args.self in
    omega (arith, date_fits (date d.year d.month d.day) (exists_parts _ d.there))
