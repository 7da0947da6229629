-- Document 01, "What a closed channel paid": the third demand of every list of calls on one book, byte strings and journals in any order.
use Rattle.std.specs.Prelude.{ℕ, ◌<◌, ◌≡◌, length, drop}
use mathlib.Core.List.{List, [], ◌∷◌, ◌++◌, foldl, flat_map}
use Rattle.sha256.specs.Digest.{sha256}
use Rattle.machine.specs.Opening.{Opening, opening}
use Rattle.machine.specs.Real.{lms_verdict, real_step}
use Rattle.ledger.specs.Ledger.{strings, Standing, recorded, after, Accounted}
use Rattle.machine.specs.declared.state.Book.{Book}
use Rattle.journal.specs.declared.lines.Line.{Line}
use Rattle.journal.specs.Runs.{run_of}
use Rattle.journal.specs.Divided.{divided, told}

-- One byte string, or a journal with the lines lent for it.
pub data Call : Type 0 where
  apply : List ℕ → Call
  run : List ℕ → List Line → Call

-- What a call leaves: its history is told by the string and its answer, or by the commands of the journal and the lines of the run.
unfoldable pub called : Standing → Call → Standing
called t (apply s) = recorded t s (real_step t.book s)
called t (run cs ls) = let d = run_of t.book cs ls in record { book = d.book; history = told t.history (divided (length ls) cs) d.lines }

-- Each call on the book that the one before left.
abbrev pub calls : Standing → List Call → Standing
calls t l = foldl called t l

-- The strings that a call gives to the book.
unfoldable pub given : Call → List (List ℕ)
given (apply s) = s ∷ []
given (run cs ls) = divided (length ls) cs

-- From any standing: calls are the list of all their strings; a journal called again where a line was wanting is one call with all the lines.
pub record CallsMean (t : Standing) : Type 0 where
  pub list : (l : List Call) → calls t l ≡ after lms_verdict sha256 t (flat_map given l)
  pub again : (cs : List ℕ) (ls ms : List Line) → let d = run_of t.book cs ls in d.cause ≡ 13 → calls t (run cs ls ∷ run (drop d.used cs) ms ∷ []) ≡ called t (run cs (ls ++ ms))

-- The third demand after every list of calls on a book just opened.
abbrev pub JournalDemand : Type 0
JournalDemand =
    (lent : Book) (o : Opening) → (opening lent o).refusal ≡ 0 → (l : List Call) (n : ℕ) → n < 64
    → let t = calls (record { book = (opening lent o).book; history = [] }) l in Accounted lms_verdict sha256 o t.book t.history n (strings n t.history)
