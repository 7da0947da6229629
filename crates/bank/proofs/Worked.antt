-- The figures of collecting: antt computes the definitions on them.
use mathlib.Core.Path.{refl}
use Rattle.wire.specs.Numbers.{u16_at}
use Rattle.wire.specs.Parts.{pasted}
use Rattle.machine.specs.Checks.{ask}
use Rattle.machine.specs.Format.{size}
use Rattle.payments.specs.Payments.{listed}
use Rattle.payments.specs.Answers.{refusal_of, filled}
use Rattle.journal.specs.Runs.{next_by}
use Rattle.bank.specs.Collected.{above, paid_in, collected}
use Rattle.bank.specs.Figures.{Collects}

pub figures : Collects
unfolding u16_at pasted ask size next_by listed refusal_of filled above paid_in collected
figures = record { collects = refl; line_too_few = refl; no_command = refl; cut_short = refl; collects_short = refl; collects_long = refl }
