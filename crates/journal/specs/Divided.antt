-- Document 01, "Journal and due list": a run is a list of commands, each given to the book that the one before left.
use Rattle.std.specs.Prelude.{ℕ, zero, suc, ◌≡◌, cond, length, take, drop}
use mathlib.Core.List.{List, [], ◌∷◌, flatten}
use Rattle.sha256.specs.Digest.{sha256}
use Rattle.machine.specs.Real.{lms_verdict}
use Rattle.ledger.specs.Ledger.{Entry, after}
use Rattle.machine.specs.declared.state.Book.{Book}
use Rattle.journal.specs.declared.lines.Line.{Line}
use Rattle.journal.specs.Runs.{Done, next_of}

-- The commands that a journal divides into, with so many lines for them.
unfoldable pub divided : ℕ → List ℕ → List (List ℕ)
divided zero cs = []
divided (suc k) cs = let x = next_of cs (suc k) in cond x.goes (take x.size cs ∷ divided k (drop x.size cs)) []

-- The history that commands and lines tell, after the history h: the last one first.
unfoldable pub told : List Entry → List (List ℕ) → List Line → List Entry
told h [] ls = h
told h (s ∷ l) [] = h
told h (s ∷ l) (x ∷ ls) = told (record { string = s; answer = x.answer } ∷ h) l ls

-- The commands l, given to the book b with the history h, lead to the book and the lines of the run d; their bytes are those used; later lines stay.
pub record RunMeans (b : Book) (h : List Entry) (cs : List ℕ) (ls : List Line) (l : List (List ℕ)) (d : Done) : Type 0 where
  pub list : after lms_verdict sha256 (record { book = b; history = h }) l ≡ record { book = d.book; history = told h l d.lines }
  pub count : d.count ≡ length l
  pub used : flatten l ≡ take d.used cs
  pub kept : drop (length l) d.lines ≡ drop (length l) ls
