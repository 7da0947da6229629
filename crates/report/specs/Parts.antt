-- A statement in parts: the run is called again while lines are short (document 01, "Journal and due list").
use Rattle.std.specs.Prelude.{ℕ, zero, suc, ◌+◌, ◌≡◌, Bool, true, false, cond, List, [], ◌∷◌, ◌++◌, eqb, ltb, length, take, drop, replicate, codes, Result, Ok, Err}
use Rattle.std.specs.declared.ops.ControlFlow.TheVariants.{Continue, Break}
use Rattle.wire.specs.Parts.{pasted}
use Rattle.machine.specs.Opening.{blank_book}
use Rattle.machine.specs.declared.state.Book.{Book}
use Rattle.journal.specs.declared.lines.Line.{Line}
use Rattle.journal.specs.declared.runs.Ran.{Ran}
use Rattle.journal.specs.Runs.{Done, run_of, ran_of}
use Rattle.report.specs.declared.parts.Part.{Part as Handed}
use Rattle.report.specs.declared.parts.Reached.{Reached}
use Rattle.report.specs.declared.parts.Refused.{Refused}
use Rattle.report.specs.declared.parts.Refused.TheVariants.{NoBook, TooLong}
use Rattle.report.specs.Lines.{lines_from, end_line, no_book, too_long}
use Rattle.report.specs.Statement.{no_lines, opened_by, statement_of}

-- ---- a text in a buffer

-- A text at the start of its bytes.
pub record Text : Type 0 where
  pub bytes : List ℕ
  pub size : ℕ

-- An empty buffer, with room for 64 lines of 126 bytes and an end of 46.
unfoldable pub no_bytes : List ℕ
no_bytes = replicate 8110 0

-- A text at the start of one.
unfoldable pub stored : List ℕ → Text
stored t = record { bytes = pasted no_bytes 0 t; size = length t }

-- What is printed of a buffer.
abbrev pub shown : Text → List ℕ
shown x = take x.size x.bytes

-- ---- parts

-- Some of a statement's text, whether more of it follows, and from where.
pub record Part : Type 0 where
  pub text : Text
  pub more : Bool
  pub next : Reached

-- A book before its journal.
abbrev pub begun : Book → Reached
begun b = record { book = b; used = 0; number = 1 }

-- A part that is the whole statement.
abbrev pub whole : List ℕ → Part
whole t = record { text = stored t; more = false; next = begun blank_book }

-- The first part: the whole statement where there is no journal to run, else nothing yet.
unfoldable pub first_part : List ℕ → Part
first_part input =
    cond (ltb (length input) 16) (whole no_book)
    (cond (ltb 65536 (length input)) (whole too_long)
    (record { text = stored []; more = true; next = begun (opened_by input) }))

-- The text of a run: its lines, numbered from a number on, and the end where lines are not short.
unfoldable pub text_of : List Line → Ran → ℕ → ℕ → List ℕ
text_of ls r number used = lines_from number (take r.lines ls) ++ cond (eqb r.cause 13) [] (end_line used r.cause)

-- A part from a run that went on from x.
abbrev pub part_of : Done → Reached → Part
part_of d x =
    record {
      text = stored (text_of d.lines (ran_of d) x.number (x.used + d.used));
      more = eqb d.cause 13;
      next = record { book = d.book; used = x.used + d.used; number = x.number + d.count };
    }

-- The next run on a journal: over its rest, with 64 lines.
abbrev pub ran_from : List ℕ → Reached → Done
ran_from cs x = run_of x.book (drop x.used cs) (no_lines 64)

unfoldable pub next_part : List ℕ → Reached → Part
next_part cs x = part_of (ran_from cs x) x

-- ---- all parts

-- A part and those after it, at most n of them.
unfoldable pub parts_from : ℕ → List ℕ → Part → List Part
parts_from zero cs p = p ∷ []
parts_from (suc n) cs p = p ∷ cond p.more (parts_from n cs (next_part cs p.next)) []

-- The parts of an input's statement.
abbrev pub parts_of : List ℕ → List Part
parts_of input = parts_from (length input) (drop 16 input) (first_part input)

-- What is printed of parts, one after the other.
unfoldable pub printed : List Part → List ℕ
printed [] = []
printed (p ∷ ps) = shown p.text ++ printed ps

-- Whether more follows the last of them.
unfoldable pub open_ended : List Part → Bool
open_ended [] = false
open_ended (p ∷ []) = p.more
open_ended (p ∷ (q ∷ ps)) = open_ended (q ∷ ps)

-- The parts are the statement of the input, and after the last one there is no more.
pub record PartsMean (input : List ℕ) : Type 0 where
  pub joined : printed (parts_of input) ≡ statement_of input
  pub ends : open_ended (parts_of input) ≡ false

-- ---- what the code answers

-- A refused input is told in a line.
abbrev pub told : Refused → List ℕ
told NoBook = codes "no book"
told TooLong = codes "too long"

-- The first part: nothing yet of a book with its journal, or the line that tells the refusal.
abbrev pub first_of : Result Reached Refused → Part
first_of (Ok x) = record { text = stored []; more = true; next = x }
first_of (Err r) = whole (told r ++ (0x0A ∷ []))

-- Of a part its text, and how far it comes: the next one follows from there, or none does.
abbrev pub handed : Part → Handed
handed p = record { text = record { items = shown p.text }; next = cond p.more (Continue p.next) (Break p.next) }
