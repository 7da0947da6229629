-- The run that a part is made of: what the code's run is, how far it goes, and the part.
use Prim.Native.Nat.{ℕ, ◌+◌, ◌-◌, ◌≤◌, ◌<◌}
use native.Mathlib.Omega.{arith}
use mathlib.Core.Path.{◌≡◌, sym, ap, ◌∙◌}
use mathlib.Core.List.{List, ◌++◌, append-nil}
use Rattle.std.proofs.Common.{Continue, Break}
use borrow.Author.Tests.{eq-eqb, ne_eqb}
use Rattle.arrayvec.specs.ArrayVec.{ArrayVec}
use lib.ListN.{length, take, drop, length-drop, length-replicate}
use lib.Seq.{take_all, drop-drop}
use Rattle.machine.specs.declared.state.Book.{Book}
use Rattle.journal.specs.declared.lines.Line.{Line}
use Rattle.journal.specs.declared.runs.Ran.{Ran}
use Rattle.journal.specs.Runs.{Done, run_of, ran_of}
use Rattle.journal.proofs.Bounds.{run_bounds}
use Rattle.report.specs.declared.parts.Reached.{Reached}
use Rattle.report.specs.declared.parts.Part.{Part as Handed}
use Rattle.report.specs.Lines.{lines_from, end_line}
use Rattle.report.specs.Statement.{no_line, no_lines}
use Rattle.report.specs.Parts.{text_of, ran_from, next_part, handed}
use Rattle.report.proofs.Buffers.{shown_stored}

pub length_no_lines : (n : ℕ) → length (no_lines n) ≡ n
unfolding no_lines
length_no_lines n = length-replicate n no_line

-- How far it goes.
pub record Goes (cs : List ℕ) (x : Reached) (d : Done) : Type 0 where
  pub lines : d.count ≤ 64
  pub each : d.count ≤ d.used
  pub bytes : x.used + d.used ≤ length cs
  pub moves : d.cause ≡ 13 → 0 < d.used

pub goes : (cs : List ℕ) (x : Reached) → x.used ≤ length cs → Goes cs x (ran_from cs x)
goes cs x h =
    let k = run_bounds (no_lines 64) x.book (drop x.used cs) in
    let n = length_no_lines 64 in
    let l = length-drop x.used cs in
    record {
      lines = omega (arith, k.lines);
      each = k.each;
      bytes = omega (arith, k.bytes);
      moves = λ e. k.moves e (omega arith);
    }

-- The journal's rest, as the code lends it.
rest : (s : List ℕ) (used : ℕ) → take (length s - (16 + used)) (drop (16 + used) s) ≡ drop used (drop 16 s)
rest s used =
    let h : length (drop (16 + used) s) ≤ length s - (16 + used) = omega (arith, length-drop (16 + used) s) in
    take_all (length s - (16 + used)) (drop (16 + used) s) h ∙ sym (drop-drop used 16 s)

pub same_run : (s : List ℕ) (x : Reached) (ls : List Line) → ls ≡ no_lines 64
    → run_of x.book (take (length s - (16 + x.used)) (drop (16 + x.used) s)) ls ≡ ran_from (drop 16 s) x
same_run s x ls e = rw (rest s x.used, e)

-- The code's run: what it leaves, and how far it goes.
pub record Runs (cs : List ℕ) (x : Reached) (r : Ran) (b : Book) (ls : List Line) : Type 0 where
  pub ran : r ≡ ran_of (ran_from cs x)
  pub book : b ≡ (ran_from cs x).book
  pub written : ls ≡ (ran_from cs x).lines
  pub lent : length ls ≡ 64
  pub lines : r.lines ≤ 64
  pub each : r.lines ≤ r.used
  pub bytes : x.used + r.used ≤ length cs

pub runs : (s : List ℕ) (x : Reached) (r : Ran) (b : Book) (lent ls : List Line) → 16 + x.used ≤ length s → lent ≡ no_lines 64
    → let d = run_of x.book (take (length s - (16 + x.used)) (drop (16 + x.used) s)) lent in (r ≡ ran_of d) × (b ≡ d.book) × (ls ≡ d.lines) → Runs (drop 16 s) x r b ls
runs s x r b lent ls h e w =
    let run = same_run s x lent e in
    let g = goes (drop 16 s) x (omega (arith, length-drop 16 s)) in
    let o : r ≡ ran_of (ran_from (drop 16 s) x) = w.0 ∙ ap ran_of run in
    let p : ls ≡ (ran_from (drop 16 s) x).lines = w.2 ∙ ap (λ (d : Done). d.lines) run in
    let k = run_bounds (no_lines 64) x.book (drop x.used (drop 16 s)) in
    record {
      ran = o;
      book = w.1 ∙ ap (λ (d : Done). d.book) run;
      written = p;
      lent = ap length p ∙ omega (arith, k.lent, length_no_lines 64);
      lines = rw o g.lines;
      each = rw o g.each;
      bytes = rw o g.bytes;
    }

abbrev text : List ℕ → ArrayVec ℕ
text t = record { items = t }

-- The part that is made of a run: where lines are short others follow, else an end.
pub made_more : (cs : List ℕ) (x : Reached) (r : Ran) (b : Book) (ls : List Line) (t : ArrayVec ℕ) → Runs cs x r b ls → r.cause ≡ 13
    → t.items ≡ lines_from x.number (take r.lines ls)
    → ◌≡◌ {A = Handed} (record { text = t; next = Continue (record { book = b; used = x.used + r.used; number = x.number + r.lines }) }) (handed (next_part cs x))
unfolding next_part text_of
made_more cs x r b ls t k c e =
    let d : (ran_from cs x).cause ≡ 13 = sym (ap (λ (a : Ran). a.cause) k.ran) ∙ c in
    let n : t ≡ text (lines_from x.number (take r.lines ls)) = ap text e in
    rw (n, k.ran, k.book, k.written, shown_stored, eq-eqb (ran_from cs x).cause 13 d, append-nil)

pub made_last : (cs : List ℕ) (x : Reached) (r : Ran) (b : Book) (ls : List Line) (t : ArrayVec ℕ) → Runs cs x r b ls → (r.cause ≡ 13 → ⊥)
    → t.items ≡ lines_from x.number (take r.lines ls) ++ end_line (x.used + r.used) r.cause
    → ◌≡◌ {A = Handed} (record { text = t; next = Break (record { book = b; used = x.used + r.used; number = x.number + r.lines }) }) (handed (next_part cs x))
unfolding next_part text_of
made_last cs x r b ls t k c e =
    let d : (ran_from cs x).cause ≡ 13 → ⊥ = λ f. c (ap (λ (a : Ran). a.cause) k.ran ∙ f) in
    let n : t ≡ text (lines_from x.number (take r.lines ls) ++ end_line (x.used + r.used) r.cause) = ap text e in
    rw (n, k.ran, k.book, k.written, shown_stored, ne_eqb (ran_from cs x).cause 13 d)
