-- Document 01, "Journal and due list": what the statement program prints of an input; document 02, No. 1: its opening is the plain one.
use Rattle.std.specs.Prelude.{ℕ, ◌≤◌, ◌≡◌, cond, List, ◌++◌, ltb, length, take, drop, replicate}
use Rattle.machine.specs.Opening.{plainly, opening, blank_book}
use Rattle.machine.specs.Machine.{no_answer}
use Rattle.machine.specs.declared.state.Book.{Book}
use Rattle.journal.specs.declared.lines.Line.{Line}
use Rattle.journal.specs.Runs.{Done, run_of}
use Rattle.journal.specs.Continued.{written}
use Rattle.report.specs.Lines.{lines_from, end_line, no_book, too_long}

-- A line to write to.
abbrev pub no_line : Line
no_line = record { answer = no_answer }

-- n of them.
unfoldable pub no_lines : ℕ → List Line
no_lines n = replicate n no_line

-- A run as text: the lines that it wrote, numbered from 1, and its end.
unfoldable pub run_text : Done → List ℕ
run_text d = lines_from 1 (written d).lines ++ end_line d.used d.cause

-- The run on a journal, with a line for each byte, so that lines are never short.
abbrev pub journal_text : Book → List ℕ → List ℕ
journal_text b cs = run_text (run_of b cs (no_lines (length cs)))

-- The book of an input: the plain opening with its first 16 bytes as the id.
abbrev pub opened_by : List ℕ → Book
opened_by input = (opening blank_book (plainly (take 16 input))).book

-- The id and then a journal; below 16 bytes `no book`, above 65,536 in all `too long`.
unfoldable pub statement_of : List ℕ → List ℕ
statement_of input =
    cond (ltb (length input) 16) no_book
    (cond (ltb 65536 (length input)) too_long
    (journal_text (opened_by input) (drop 16 input)))

-- Lines are never short, so cause 13 is never printed; what the lines held, and how many more there are, counts for nothing.
pub record JournalMeans (b : Book) (cs : List ℕ) : Type 0 where
  pub never : (run_of b cs (no_lines (length cs))).cause ≡ 13 → ⊥
  pub any : (ls : List Line) → length cs ≤ length ls → run_text (run_of b cs ls) ≡ journal_text b cs

-- No byte past the 65,537th counts.
abbrev pub NoFurther : List ℕ → Type 0
NoFurther input = statement_of (take 65537 input) ≡ statement_of input
