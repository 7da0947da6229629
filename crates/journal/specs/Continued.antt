-- Document 01, "Journal and due list": "The program calls the run again while lines are short, so it never prints cause 13".
use Rattle.std.specs.Prelude.{ℕ, ◌≤◌, ◌≡◌, List, ◌++◌, length, take, drop}
use Rattle.machine.specs.declared.state.Book.{Book}
use Rattle.journal.specs.declared.lines.Line.{Line}
use Rattle.journal.specs.Runs.{Done, prefixed, run_of}

-- The run d over cs, and then a run with the lines ms from the place that it reached.
abbrev pub resumed : List ℕ → List Line → Done → Done
resumed cs ms d = prefixed d.lines d.count d.used (run_of d.book (drop d.used cs) ms)

-- The run d with more lines lent, which keep their content.
abbrev pub widened : List Line → Done → Done
widened ms d = record { book = d.book; lines = d.lines ++ ms; count = d.count; used = d.used; cause = d.cause }

-- The run d with only the lines that it wrote.
abbrev pub written : Done → Done
written d = record { book = d.book; lines = take d.count d.lines; count = d.count; used = d.used; cause = d.cause }

-- The run d over cs with the lines ls, and other lines ms.
pub record Continued (b : Book) (cs : List ℕ) (ls ms : List Line) (d : Done) : Type 0 where
  -- stopped for want of a line and called again: one run with all the lines
  pub continued : d.cause ≡ 13 → run_of b cs (ls ++ ms) ≡ resumed cs ms d
  -- stopped for any other cause: more lines change nothing
  pub unchanged : (d.cause ≡ 13 → ⊥) → run_of b cs (ls ++ ms) ≡ widened ms d
  -- a line for each byte is enough
  pub enough : length cs ≤ length ls → d.cause ≡ 13 → ⊥
  -- stopped for want of a line: all are written
  pub full : d.cause ≡ 13 → d.count ≡ length ls
  -- as many lines as were lent
  pub lent : length d.lines ≡ length ls
  -- only the number of the lines counts, not what they held
  pub alike : length ls ≡ length ms → written d ≡ written (run_of b cs ms)
