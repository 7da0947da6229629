-- Document 01, "Journal and due list": what a run leaves.
use Rattle.std.specs.Prelude.{ℕ, suc, ◌+◌, Bool, true, false, cond, List, [], ◌∷◌, ◌++◌, eqb, ltb, length, take, drop, Result, Ok, Err}
use Rattle.machine.specs.Format.{opcode, size}
use Rattle.machine.specs.Real.{real_step}
use Rattle.machine.specs.declared.state.Book.{Book}
use Rattle.journal.specs.declared.lines.Line.{Line}
use Rattle.journal.specs.declared.following.Cause.{Cause}
use Rattle.journal.specs.declared.following.Cause.TheVariants.{NoBytes, Opcode, Length, NoLine}
use Rattle.journal.specs.declared.runs.Ran.{Ran}

-- ---- what comes next

-- A command of so many bytes, or a cause to stop.
pub record Next : Type 0 where
  pub goes : Bool
  pub cause : ℕ
  pub size : ℕ

abbrev pub stop : ℕ → Next
stop c = record { goes = false; cause = c; size = 0 }

abbrev pub go : ℕ → Next
go s = record { goes = true; cause = 0; size = s }

-- No bytes left (0), no line left (13), first byte unknown (1), fewer bytes than the command needs (2).
unfoldable pub next_by : ℕ → ℕ → ℕ → Next
next_by left room whole =
    cond (eqb left 0) (stop 0) (cond (eqb room 0) (stop 13) (cond (eqb whole 0) (stop 1) (cond (ltb left whole) (stop 2) (go whole))))

-- Of the bytes cs, with so many lines left.
abbrev pub next_of : List ℕ → ℕ → Next
next_of cs room = next_by (length cs) room (size (opcode cs))

-- The same from place at on: whether a command goes, the cause to stop, and where the command ends.
pub record Ahead : Type 0 where
  pub goes : Bool
  pub cause : ℕ
  pub end : ℕ

abbrev pub ahead_of : ℕ → Next → Ahead
ahead_of at x = record { goes = x.goes; cause = x.cause; end = at + x.size }

-- The number of a cause.
abbrev pub number_of : Cause → ℕ
number_of NoBytes = 0
number_of Opcode = 1
number_of Length = 2
number_of NoLine = 13

-- What an answer at place at says: where the command ends, or the cause to stop.
abbrev pub ahead_in : ℕ → Result ℕ Cause → Ahead
ahead_in at (Ok end) = record { goes = true; cause = 0; end = end }
ahead_in at (Err c) = record { goes = false; cause = number_of c; end = at }

-- ---- a run

-- One command: a line holds its answer.
pub record Turned : Type 0 where
  pub book : Book
  pub line : Line

unfoldable pub turned_of : Book → List ℕ → Turned
turned_of b s = record { book = (real_step b s).book; line = record { answer = (real_step b s).answer } }

-- The book and the lines after a run, the lines written, the bytes used, the cause.
pub record Done : Type 0 where
  pub book : Book
  pub lines : List Line
  pub count : ℕ
  pub used : ℕ
  pub cause : ℕ

-- A run that stops at once: all lines keep their content.
abbrev pub stopped : Book → List Line → ℕ → Done
stopped b ls c = record { book = b; lines = ls; count = 0; used = 0; cause = c }

-- A run after n lines written and u bytes used.
abbrev pub prefixed : List Line → ℕ → ℕ → Done → Done
prefixed ls n u d = record { book = d.book; lines = ls ++ d.lines; count = n + d.count; used = u + d.used; cause = d.cause }

-- A command that goes is given to the book, and the rest of the journal to the book that it leaves.
unfoldable pub run_of : Book → List ℕ → List Line → Done
run_of b cs [] = stopped b [] (next_of cs 0).cause
run_of b cs (l ∷ ls) =
    let x = next_of cs (suc (length ls)) in
    let t = turned_of b (take x.size cs) in
    cond x.goes (prefixed (t.line ∷ []) 1 x.size (run_of t.book (drop x.size cs) ls)) (stopped b (l ∷ ls) x.cause)

abbrev pub ran_of : Done → Ran
ran_of d = record { lines = d.count; used = d.used; cause = d.cause }
