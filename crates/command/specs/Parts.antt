-- The parts of a step, and what the code's results say of it.
use Rattle.std.specs.Prelude.{◌≡◌, ◌≢◌, true, cond, List, ℕ, length, Result, Ok, Err}
use Rattle.machine.specs.Book.{cents, seconds, sound}
use Rattle.machine.specs.Format.{opcode, size}
use Rattle.machine.specs.Answered.{Judged}
use Rattle.machine.specs.Checks.{clean, passed, judge}
use Rattle.machine.specs.Machine.{answer, timed}
use Rattle.machine.specs.Outcomes.{refusal_number, refused_answer, paid_answer}
use Rattle.machine.specs.declared.numbers.Refusal.{Refusal}
use Rattle.machine.specs.declared.units.Seconds.{Seconds}
use Rattle.machine.specs.declared.state.Book.{Book}
use Rattle.machine.specs.declared.answers.Answer.{Answer}
use Rattle.machine.specs.declared.answers.Stepped.{Stepped}

-- What 01 makes of the clock, and its answer.
pub record Clocked : Type 0 where
  pub clock : Seconds
  pub answer : Answer

-- 01 on the clock: a refused command leaves it as it is.
abbrev pub clocked : Seconds → ℕ → Clocked
clocked clock t =
    let j : Judged = judge clean (timed clock.0 t) in
    record { clock = cond (passed j) (seconds t) clock; answer = answer j (cents 0) (cents 0) }

-- The clock that is left, and the answer of 01.
abbrev pub clocked_of : {A : Type 0} → Seconds → Result A Refusal → Clocked
clocked_of clock (Ok _) = record { clock = clock; answer = paid_answer (cents 0) (cents 0) 0 }
clocked_of clock (Err e) = record { clock = clock; answer = refused_answer (refusal_number e) 0 }

-- The book that is left, and the answer of a command that made these chain steps.
abbrev pub stepped_of : Book → ℕ → Result Answer Refusal → Stepped
stepped_of book steps (Ok a) = record { book = book; answer = a }
stepped_of book steps (Err e) = record { book = book; answer = refused_answer (refusal_number e) steps }

-- A command of a channel that passes 99, 1 and 2.
pub record OnChannel (b : Book) (op : ℕ) (s : List ℕ) : Type 0 where
  pub steady : sound b ≡ true
  pub other : op ≢ 1
  pub named : opcode s ≡ op
  pub sized : length s ≡ size op
