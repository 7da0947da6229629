-- A run by its turns: what comes next, the first turn, and what holds of every run because each turn keeps it.
use Prim.Native.Nat.{ℕ, suc, ◌+◌, ◌<◌, ◌≤◌}
use native.Mathlib.Nat.{zero-add, add_assoc}
use native.Mathlib.Omega.{arith}
use mathlib.Core.Path.{◌≡◌, refl, sym}
use mathlib.Core.Bool.{Bool, true, false, cond, false≢true}
use mathlib.Core.List.{List, [], ◌∷◌, ◌++◌, append_assoc}
use borrow.Author.Tests.{eq-eqb, eqb-true, eqb-false, ltb-false}
use lib.Dec.{eqb, ltb, eqb-suc-zero}
use lib.ListN.{length, take, drop}
use Rattle.machine.specs.Format.{opcode, size}
use Rattle.machine.specs.declared.state.Book.{Book}
use Rattle.journal.specs.declared.lines.Line.{Line}
use Rattle.journal.specs.Runs.{Next, Done, stop, next_by, next_of, turned_of, stopped, prefixed, run_of}
use Rattle.journal.specs.Divided.{divided}

-- ---- what comes next

-- A command that goes has a line and some bytes, and they are there. Where a line is wanting, none is left, and bytes are.
pub record Fits (left room : ℕ) (n : Next) : Type 0 where
  pub line : n.goes ≡ true → 0 < room
  pub some : n.goes ≡ true → 0 < n.size
  pub there : n.goes ≡ true → n.size ≤ left
  pub short : n.cause ≡ 13 → (room ≡ 0) × (0 < left)

positive : (n : ℕ) → eqb n 0 ≡ false → 0 < n
positive n e = let h : n ≡ 0 → ⊥ = eqb-false n 0 e in omega arith

stops : {left room : ℕ} (c : ℕ) → (c ≡ 13 → (room ≡ 0) × (0 < left)) → Fits left room (stop c)
stops c h = record { line = λ e. absurd (false≢true e); some = λ e. absurd (false≢true e); there = λ e. absurd (false≢true e); short = h }

by_test : {left room : ℕ} (t : Bool) {n m : Next} → (t ≡ true → Fits left room n) → (t ≡ false → Fits left room m) → Fits left room (cond t n m)
by_test true f g = f refl
by_test false f g = g refl

pub fits : (cs : List ℕ) (room : ℕ) → Fits (length cs) room (next_of cs room)
unfolding next_by
fits cs room =
    by_test (eqb (length cs) 0) (λ _. stops 0 (λ e. absurd (omega arith))) (λ a.
    by_test (eqb room 0) (λ b. stops 13 (λ _. (eqb-true room 0 b, positive (length cs) a))) (λ b.
    by_test (eqb (size (opcode cs)) 0) (λ _. stops 1 (λ e. absurd (omega arith))) (λ c.
    by_test (ltb (length cs) (size (opcode cs))) (λ _. stops 2 (λ e. absurd (omega arith))) (λ d.
    record { line = λ _. positive room b; some = λ _. positive _ c; there = λ _. ltb-false (length cs) _ d; short = λ e. absurd (omega arith) }))))

-- With a line left, it is the same for any number of them; with no bytes left, for any number at all.
pub with_lines : (cs : List ℕ) (j k : ℕ) → next_of cs (suc j) ≡ next_of cs (suc k)
unfolding next_by
with_lines cs j k = simp eqb-suc-zero

pub no_bytes_left : (cs : List ℕ) (k : ℕ) → length cs ≡ 0 → next_of cs k ≡ stop 0
unfolding next_by
no_bytes_left cs k e = rw (eq-eqb (length cs) 0 e)

-- With no line left nothing goes, and a line is wanting unless no bytes are left.
no_line_left : (cs : List ℕ) → (next_of cs 0).goes ≡ false
unfolding next_by
no_line_left cs = either (eqb (length cs) 0)
  where
    either : (y : Bool) → (cond y (stop 0) (stop 13)).goes ≡ false
    either true = refl
    either false = refl

pub not_short : (cs : List ℕ) → ((next_of cs 0).cause ≡ 13 → ⊥) → length cs ≡ 0
unfolding next_by
not_short cs = either (eqb (length cs) 0) refl
  where
    either : (y : Bool) → eqb (length cs) 0 ≡ y → ((cond y (stop 0) (stop 13)).cause ≡ 13 → ⊥) → length cs ≡ 0
    either true e h = eqb-true (length cs) 0 e
    either false e h = absurd (h refl)

-- ---- the first turn

-- What comes next with the lines ls after the first, the command, the rest of the bytes, what the command leaves, and the run with it.
module _ (cs : List ℕ) (ls : List Line) where
  abbrev pub ahead : Next
  ahead = next_of cs (suc (length ls))

  abbrev pub command : List ℕ
  command = take ahead.size cs

  abbrev pub rest : List ℕ
  rest = drop ahead.size cs

  abbrev pub next : Book → Book
  next b = (turned_of b command).book

  abbrev pub line : Book → Line
  line b = (turned_of b command).line

  abbrev pub turned : Book → Done → Done
  turned b d = prefixed (line b ∷ []) 1 ahead.size d

pub run_go : (b : Book) (cs : List ℕ) (l : Line) (ls : List Line) (x : Next) → next_of cs (suc (length ls)) ≡ x → x.goes ≡ true
    → run_of b cs (l ∷ ls) ≡ prefixed ((turned_of b (take x.size cs)).line ∷ []) 1 x.size (run_of (turned_of b (take x.size cs)).book (drop x.size cs) ls)
unfolding run_of
run_go b cs l ls x e c = simp (e, c)

pub run_stop : (b : Book) (cs : List ℕ) (ls : List Line) (x : Next) → next_of cs (length ls) ≡ x → x.goes ≡ false → run_of b cs ls ≡ stopped b ls x.cause
unfolding run_of
run_stop b cs [] x e c = simp e
run_stop b cs (l ∷ ls) x e c = simp (e, c)

-- With any lines after it.
pub first_turn : (cs : List ℕ) (ls : List Line) (b : Book) (m : Line) (ms : List Line) → (ahead cs ls).goes ≡ true → run_of b cs (m ∷ ms) ≡ turned cs ls b (run_of (next cs ls b) (rest cs ls) ms)
first_turn cs ls b m ms g = run_go b cs m ms (ahead cs ls) (with_lines cs (length ms) (length ls)) g

pub first_command : (cs : List ℕ) (ls : List Line) (k : ℕ) → (ahead cs ls).goes ≡ true → divided (suc k) cs ≡ command cs ls ∷ divided k (rest cs ls)
unfolding divided
first_command cs ls k g = simp (with_lines cs k (length ls), g)

-- ---- every run

-- A claim on a book, bytes, lines, commands and a run.
abbrev pub Claim : Type 1
Claim = Book → List ℕ → List Line → List (List ℕ) → Done → Type 0

-- It holds where nothing goes; it holds with one more turn.
abbrev pub AtStop : Claim → Type 0
AtStop P = (b : Book) (cs : List ℕ) (ls : List Line) → (next_of cs (length ls)).goes ≡ false → P b cs ls [] (stopped b ls (next_of cs (length ls)).cause)

abbrev pub AtTurn : Claim → Type 0
AtTurn P =
    (b : Book) (cs : List ℕ) (l : Line) (ls : List Line) (m : List (List ℕ)) (d : Done) → (ahead cs ls).goes ≡ true
    → P (next cs ls b) (rest cs ls) ls m d → P b cs (l ∷ ls) (command cs ls ∷ m) (turned cs ls b d)

pub by_turns : (P : Claim) → AtStop P → AtTurn P → (b : Book) (cs : List ℕ) (ls : List Line) → P b cs ls (divided (length ls) cs) (run_of b cs ls)
unfolding run_of divided
by_turns P at-stop at_turn b cs [] = at-stop b cs [] (no_line_left cs)
by_turns P at-stop at_turn b cs (l ∷ ls) = either (ahead cs ls).goes _ _ refl (by_turns P at-stop at_turn (next cs ls b) (rest cs ls) ls)
  where
    either : (y : Bool) (m : List (List ℕ)) (d : Done) → (ahead cs ls).goes ≡ y → P (next cs ls b) (rest cs ls) ls m d
        → P b cs (l ∷ ls) (cond y (command cs ls ∷ m) []) (cond y (turned cs ls b d) (stopped b (l ∷ ls) (ahead cs ls).cause))
    either true m d e r = at_turn b cs l ls m d e r
    either false m d e r = at-stop b cs (l ∷ ls) e

-- ---- a run after another

pub prefixed_none : (d : Done) → d ≡ prefixed [] 0 0 d
prefixed_none d = λ i. record { book = d.book; lines = d.lines; count = sym (zero-add d.count) i; used = sym (zero-add d.used) i; cause = d.cause }

pub prefixed_twice : (ls : List Line) (n u : ℕ) (ms : List Line) (m v : ℕ) (d : Done) → prefixed ls n u (prefixed ms m v d) ≡ prefixed (ls ++ ms) (n + m) (u + v) d
prefixed_twice ls n u ms m v d =
    sym (λ i. record { book = d.book; lines = append_assoc ls ms d.lines i; count = add_assoc n m d.count i; used = add_assoc u v d.used i; cause = d.cause })
