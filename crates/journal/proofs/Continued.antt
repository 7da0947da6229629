-- A run with more lines, or with other lines: the laws of `Continued`.
use Prim.Native.Nat.{ℕ, suc, ◌+◌}
use native.Mathlib.Omega.{arith}
use native.Mathlib.Numerals.{one-add}
use mathlib.Core.Path.{◌≡◌, sym, ap, ◌∙◌}
use mathlib.Core.List.{List, [], ◌∷◌, ◌++◌}
use lib.ListN.{length, take, drop}
use lib.Seq.{drop-drop}
use Rattle.machine.specs.declared.state.Book.{Book}
use Rattle.journal.specs.declared.lines.Line.{Line}
use Rattle.journal.specs.Runs.{Done, next_of, prefixed, run_of}
use Rattle.journal.specs.Continued.{resumed, widened, written, Continued}
use Rattle.journal.proofs.Turning.{fits, with_lines, no_bytes_left, not_short, ahead, rest, next, line, turned, run_stop, first_turn, Claim, AtStop, AtTurn, by_turns, prefixed_none, prefixed_twice}
use Rattle.journal.proofs.Bounds.{run_bounds}

module _ (ms : List Line) where
  -- ---- stopped for want of a line

  abbrev Resumes : Claim
  Resumes b cs ls _ d = d.cause ≡ 13 → run_of b cs (ls ++ ms) ≡ resumed cs ms d

  resumes_stopped : AtStop Resumes
  resumes_stopped b cs [] s e = prefixed_none (run_of b cs ms)
  resumes_stopped b cs (l ∷ ls) s e = absurd (omega (arith, ((fits cs (suc (length ls))).short e).0))

  resumes_turned : AtTurn Resumes
  resumes_turned b cs l ls m d g r e =
      first_turn cs ls b l (ls ++ ms) g
      ∙ ap (turned cs ls b) (r e)
      ∙ prefixed_twice (line cs ls b ∷ []) 1 (ahead cs ls).size d.lines d.count d.used (run_of d.book (drop d.used (rest cs ls)) ms)
      ∙ ap (λ (t : List ℕ). prefixed (line cs ls b ∷ d.lines) (1 + d.count) ((ahead cs ls).size + d.used) (run_of d.book t ms)) (drop-drop d.used (ahead cs ls).size cs)

  -- ---- stopped for any other cause

  abbrev Stays : Claim
  Stays b cs ls _ d = (d.cause ≡ 13 → ⊥) → run_of b cs (ls ++ ms) ≡ widened ms d

  stays_stopped : AtStop Stays
  stays_stopped b cs [] s h =
      let none : length cs ≡ 0 = not_short cs h in
      run_stop b cs ms (next_of cs 0) (no_bytes_left cs (length ms) none ∙ sym (no_bytes_left cs 0 none)) s
  stays_stopped b cs (l ∷ ls) s h = run_stop b cs (l ∷ ls ++ ms) (ahead cs ls) (with_lines cs (length (ls ++ ms)) (length ls)) s

  stays_turned : AtTurn Stays
  stays_turned b cs l ls m d g r h = first_turn cs ls b l (ls ++ ms) g ∙ ap (turned cs ls b) (r h)

-- ---- other lines

abbrev Alike : Claim
Alike b cs ls _ d = (ms : List Line) → length ls ≡ length ms → written d ≡ written (run_of b cs ms)

alike_stopped : AtStop Alike
alike_stopped b cs ls s ms e = ap written (sym (run_stop b cs ms (next_of cs (length ls)) (ap (next_of cs) (sym e)) s))

written_turned : (b : Book) (cs : List ℕ) (ls : List Line) (d : Done) → written (turned cs ls b d) ≡ turned cs ls b (written d)
written_turned b cs ls d = ap (λ (n : ℕ). record { book = d.book; lines = take n (line cs ls b ∷ d.lines); count = 1 + d.count; used = (ahead cs ls).size + d.used; cause = d.cause }) (one-add d.count)

alike_turned : AtTurn Alike
alike_turned b cs l ls m d g r [] e = absurd (omega arith)
alike_turned b cs l ls m d g r (k ∷ ms) e =
    let d' = run_of (next cs ls b) (rest cs ls) ms in
    written_turned b cs ls d ∙ ap (turned cs ls b) (r ms (omega arith)) ∙ sym (ap written (first_turn cs ls b k ms g) ∙ written_turned b cs ls d')

-- ---- the laws

pub run_continued : (b : Book) (cs : List ℕ) (ls ms : List Line) → Continued b cs ls ms (run_of b cs ls)
run_continued b cs ls ms =
    let k = run_bounds ls b cs in
    record {
      continued = by_turns (Resumes ms) (resumes_stopped ms) (resumes_turned ms) b cs ls;
      unchanged = by_turns (Stays ms) (stays_stopped ms) (stays_turned ms) b cs ls;
      enough = λ e c. omega (arith, e, k.each, k.short c, k.full c);
      full = k.full;
      lent = k.lent;
      alike = by_turns Alike alike_stopped alike_turned b cs ls ms;
    }
