-- What the openings' results say, as the definition has it.
use Rattle.std.specs.Prelude.{Result, Ok, Err}
use Rattle.machine.specs.Opening.{Opened}
use Rattle.machine.specs.Outcomes.{refusal_number}
use Rattle.machine.specs.declared.numbers.Refusal.{Refusal}
use Rattle.machine.specs.declared.state.Book.{Book}

-- By value: a refused opening leaves the lent book.
abbrev pub opened_by : Book → Result Book Refusal → Opened
opened_by lent (Ok b) = record { book = b; refusal = 0 }
opened_by lent (Err e) = record { book = lent; refusal = refusal_number e }

-- In place, on the book that stands there afterwards.
abbrev pub opened_in : {A : Type 0} → Book → Result A Refusal → Opened
opened_in b (Ok _) = record { book = b; refusal = 0 }
opened_in b (Err e) = record { book = b; refusal = refusal_number e }
