-- Two journals and a string between them, by computing, so that the demand of calls speaks of books that are reached.
use mathlib.Core.Path.{◌≡◌, refl}
use mathlib.Core.List.{List, [], ◌∷◌, ◌++◌}
use native.Mathlib.Omega.{arith}
use Rattle.wire.specs.Numbers.{u16_at, u32_at, u64_at}
use Rattle.wire.specs.Parts.{same}
use Rattle.calendar.specs.Calendar.{leap, month_days, before, since, day_number}
use Rattle.calendar.specs.Days.{above, rising}
use Rattle.machine.specs.Format.{size}
use Rattle.machine.specs.Book.{sound_channel, sound, reading}
use Rattle.machine.specs.Checks.{ask}
use Rattle.machine.specs.Opening.{fresh, opening, blank_book}
use Rattle.machine.specs.Fee.{charged}
use Rattle.machine.specs.Rules.{delayed, keyed, establish, fund_customer, fund_merchant}
use Rattle.machine.specs.Machine.{no_answer, answer, plan, step}
use Rattle.ledger.specs.Ledger.{nothing, Standing, strings, sum, opcodes, deposits, paid}
use Rattle.ledger.proofs.Reached.{opens, establishes, funds}
use Rattle.journal.specs.declared.lines.Line.{Line}
use Rattle.journal.specs.Runs.{next_by, turned_of, run_of}
use Rattle.journal.specs.Divided.{divided, told}
use Rattle.journal.specs.Calls.{Call, called, calls}
use Rattle.journal.proofs.Called.{journal_demand}

abbrev blank : Line
blank = record { answer = no_answer }

-- A run with a line for 02 and none for 04, the string 03, and a run with 04 and a line to spare.
abbrev list : List Call
list = Call.run (establishes 5 0 ++ funds 4 5 100) (blank ∷ []) ∷ Call.apply (funds 3 5 900) ∷ Call.run (funds 4 5 100) (blank ∷ blank ∷ []) ∷ []

funded : Standing
funded = calls (record { book = (opening blank_book opens).book; history = [] }) list

-- The strings of channel 5 are those three, the last one first; so by the demand it holds their deposits.
record Reached (t : Standing) : Type 0 where
  commands : opcodes (strings 5 t.history) ≡ 4 ∷ 3 ∷ 2 ∷ []
  deposited : deposits (strings 5 t.history) ≡ 1000
  unpaid : paid (strings 5 t.history) ≡ nothing
  holds : (reading t.book 5).held.0 ≡ 1000

reached : Reached funded
unfolding funded u16_at u32_at u64_at same size leap month_days before since day_number above rising sound_channel sound fresh opening ask delayed keyed establish fund_customer fund_merchant answer plan charged step strings sum opcodes next_by turned_of run_of divided told called
reached = record { commands = refl; deposited = refl; unpaid = refl; holds = omega (arith, (journal_demand blank_book opens refl list 5 (omega arith)).conserved) }
