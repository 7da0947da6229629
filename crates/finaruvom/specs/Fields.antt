-- Document 01, "Journal and due list": the channel that is due, or none, as a struct for C.
use Rattle.std.specs.Prelude.{true, false}
use Rattle.machine.specs.Due.{Due, number, none}
use Rattle.finaruvom.specs.declared.NextDue.{NextDue}

-- The number of the channel, and 0 where there is none.
abbrev pub fields_of : Due → NextDue
fields_of (number n) = record { some = true; channel = n }
fields_of none = record { some = false; channel = 0 }
