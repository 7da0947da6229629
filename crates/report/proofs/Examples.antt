-- The definitions give the example of the paper: antt computes them on its input.
use mathlib.Core.Path.{refl}
use Rattle.wire.specs.Numbers.{bytes, u16_at, u32_at, u64_at}
use Rattle.calendar.specs.Days.{rising}
use Rattle.machine.specs.Format.{size}
use Rattle.machine.specs.Book.{sound_channel, sound}
use Rattle.machine.specs.Opening.{fresh, opening}
use Rattle.machine.specs.Checks.{ask}
use Rattle.machine.specs.Fee.{charged}
use Rattle.machine.specs.Rules.{settle}
use Rattle.machine.specs.Machine.{answer, plan, step}
use Rattle.journal.specs.Runs.{next_by, turned_of, run_of}
use Rattle.decimals.specs.Numbers.{spelled, decimal, closer, row}
use Rattle.report.specs.Lines.{fields, lines_from, end_line}
use Rattle.report.specs.Statement.{no_lines, run_text, statement_of}
use Rattle.report.specs.Examples.{Examples}

pub examples : Examples
unfolding bytes u16_at u32_at u64_at size rising sound_channel sound fresh opening ask settle answer plan charged step next_by turned_of run_of spelled decimal closer row fields lines_from end_line no_lines run_text statement_of
examples = record { paper = refl; none = refl; some = refl }
