-- A run as text: by a run with 64 lines and those after it, and with any other lines.
use Prim.Native.Nat.{ℕ, ◌+◌, ◌-◌, ◌≤◌}
use native.Mathlib.Nat.{add_assoc, add_comm, zero-add}
use native.Mathlib.Omega.{arith}
use mathlib.Core.Path.{◌≡◌, sym, ap, ◌∙◌}
use mathlib.Core.List.{List, [], ◌++◌, append_assoc}
use lib.ListN.{length, take, drop, replicate-append-replicate}
use lib.Seq.{take-append-add, take-append-le, take_all}
use Rattle.machine.specs.declared.state.Book.{Book}
use Rattle.journal.specs.declared.lines.Line.{Line}
use Rattle.journal.specs.Runs.{Done, prefixed, run_of}
use Rattle.journal.specs.Continued.{widened, written}
use Rattle.journal.proofs.Bounds.{run_bounds}
use Rattle.journal.proofs.Continued.{run_continued}
use Rattle.report.specs.Lines.{lines_from, end_line}
use Rattle.report.specs.Statement.{no_line, no_lines, run_text, JournalMeans}
use Rattle.report.proofs.Going.{length_no_lines}
use Rattle.report.proofs.LineTexts.{lines_append}

-- Its lines, numbered from n on, and its end, u bytes having been used before.
abbrev pub ran_text : ℕ → ℕ → Done → List ℕ
ran_text n u d = lines_from n (written d).lines ++ end_line (u + d.used) d.cause

-- With more lines lent it is the same.
of_widened : (n u : ℕ) (ms : List Line) (d : Done) → d.count ≤ length d.lines → ran_text n u (widened ms d) ≡ ran_text n u d
of_widened n u ms d h = rw (take-append-le d.count d.lines ms h)

-- Of a run that wrote all its lines, and the one after it.
of_resumed : (n u : ℕ) (d e : Done) → d.count ≡ length d.lines
    → ran_text n u (prefixed d.lines d.count d.used e) ≡ lines_from n (written d).lines ++ ran_text (n + d.count) (u + d.used) e
of_resumed n u d e h =
    let k : take (d.count + e.count) (d.lines ++ e.lines) ≡ d.lines ++ (written e).lines = rw h (take-append-add d.lines e.lines e.count) in
    let a : (written d).lines ≡ d.lines = take_all d.count d.lines (omega arith) in
    rw (k, a, lines_append, ← h, ← add_assoc u d.used e.used, append_assoc)

-- ---- lines are never short

module _ (b : Book) (cs : List ℕ) where
  -- As many lines as bytes are enough.
  never_short : (m : ℕ) → length cs ≤ m → (run_of b cs (no_lines m)).cause ≡ 13 → ⊥
  never_short m h = (run_continued b cs (no_lines m) []).enough (omega (arith, length_no_lines m))

  no_lines_add : (m k : ℕ) → no_lines m ++ no_lines k ≡ no_lines (m + k)
  unfolding no_lines
  no_lines_add m k = replicate-append-replicate m k no_line

  written_all : (ls : List Line) → (run_of b cs ls).count ≤ length (run_of b cs ls).lines
  written_all ls = let k = run_bounds ls b cs in omega (arith, k.lines, k.lent)

  -- Where lines are not short, with more of them the text is the same.
  wider : (n u m k : ℕ) → ((run_of b cs (no_lines m)).cause ≡ 13 → ⊥) → ran_text n u (run_of b cs (no_lines (m + k))) ≡ ran_text n u (run_of b cs (no_lines m))
  wider n u m k h =
      let d = run_of b cs (no_lines m) in
      rw (← no_lines_add m k, (run_continued b cs (no_lines m) (no_lines k)).unchanged h) (of_widened n u (no_lines k) d (written_all (no_lines m)))

  -- With a line for each byte or more, by a run with 64: the same text, or its lines and then the text of the rest.
  module _ (n u m : ℕ) (h : length cs ≤ m) where
    abbrev d : Done
    d = run_of b cs (no_lines 64)

    with_64 : ran_text n u (run_of b cs (no_lines m)) ≡ ran_text n u (run_of b cs (no_lines (64 + m)))
    with_64 = sym (wider n u m 64 (never_short m h)) ∙ ap (λ (k : ℕ). ran_text n u (run_of b cs (no_lines k))) (add_comm m 64)

    pub by_last : (d.cause ≡ 13 → ⊥) → ran_text n u (run_of b cs (no_lines m)) ≡ ran_text n u d
    by_last e = with_64 ∙ wider n u 64 m e

    pub by_more : d.cause ≡ 13 → ran_text n u (run_of b cs (no_lines m)) ≡ lines_from n (written d).lines ++ ran_text (n + d.count) (u + d.used) (run_of d.book (drop d.used cs) (no_lines m))
    by_more e =
        let c = run_continued b cs (no_lines 64) (no_lines m) in
        with_64
        ∙ ap (λ (ls : List Line). ran_text n u (run_of b cs ls)) (sym (no_lines_add 64 m))
        ∙ ap (ran_text n u) (c.continued e)
        ∙ of_resumed n u d (run_of d.book (drop d.used cs) (no_lines m)) (omega (arith, c.full e, c.lent))

-- ---- what the lines held

pub from_start : (d : Done) → run_text d ≡ ran_text 1 0 d
unfolding run_text
from_start d = rw (zero-add d.used)

alike : (b : Book) (cs : List ℕ) (ls : List Line) → run_text (run_of b cs ls) ≡ run_text (run_of b cs (no_lines (length ls)))
unfolding run_text
alike b cs ls =
    ap (λ (d : Done). lines_from 1 d.lines ++ end_line d.used d.cause) ((run_continued b cs ls (no_lines (length ls))).alike (sym (length_no_lines (length ls))))

pub journal_means : (b : Book) (cs : List ℕ) → JournalMeans b cs
journal_means b cs =
    let n = length cs in
    let short = never_short b cs n (omega arith) in
    record {
      never = short;
      any = λ ls h.
          let e : length ls ≡ n + (length ls - n) = omega arith in
          alike b cs ls
          ∙ ap (λ (k : ℕ). run_text (run_of b cs (no_lines k))) e
          ∙ from_start (run_of b cs (no_lines (n + (length ls - n))))
          ∙ wider b cs 1 0 n (length ls - n) short
          ∙ sym (from_start (run_of b cs (no_lines n)));
    }
