use Rattle.std.proofs.Common.{◌+◌, ◌-◌, ◌≡◌, sym, ap, ◌∙◌, arith}
use Rattle.calendar.proofs.Counting.{spanned, years}
use Rattle.days.proofs.dates.days_since.Goals as goal

pub returns-clause-value : goal.returns-clause-value
returns-clause-value c =
    let k = c.args.year - 1970 in
    let e : 1969 + k ≡ c.args.year - 1 = omega arith in
    let y = years k (omega arith) in
    sym (y.0 ∙ ap (spanned k) e)
