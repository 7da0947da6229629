-- The code's closing channel, if there is one, as the definition has it.
use Rattle.std.specs.Prelude.{true, false, Option, Some, None}
use Rattle.machine.specs.Book.{cents, seconds}
use Rattle.machine.specs.Due.{Soonest}
use Rattle.arbiter.specs.declared.next.Closing.{Closing}

abbrev pub soonest_in : Option Closing → Soonest
soonest_in None = record { some = false; number = 0; deadline = seconds 0; held = cents 0 }
soonest_in (Some c) = record { some = true; number = c.number; deadline = c.deadline; held = c.held }
