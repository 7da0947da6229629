-- What `Runs` says of a run, with no program logic: what comes next at a place, and the run after some turns.
use mathlib.Core.Path.{◌≡◌, sym, ◌∙◌, ap}
use mathlib.Core.Bool.{true}
use Prim.Native.Nat.{ℕ, suc, ◌+◌, ◌-◌, ◌<◌, ◌≤◌}
use native.Mathlib.Nat.{add-zero, lt-suc_self}
use native.Mathlib.Omega.{arith}
use native.Mathlib.Numerals.{add-one}
use mathlib.Core.List.{List, [], ◌∷◌, ◌++◌}
use lib.ListN.{length, get_or, set, take, drop, length-drop, length-set, take-append-drop}
use lib.Seq.{get_or-drop, drop-cons, drop-drop, drop-set-lt, take-suc-set}
use Rattle.std.specs.Prelude.{Ok, Err}
use Rattle.machine.specs.Format.{size}
use Rattle.machine.specs.Real.{real_step}
use Rattle.machine.specs.declared.answers.Answer.{Answer}
use Rattle.machine.specs.declared.state.Book.{Book}
use Rattle.journal.specs.declared.lines.Line.{Line}
use Rattle.journal.specs.declared.following.Cause.{Cause}
use Rattle.journal.specs.declared.runs.Ran.{Ran}
use Rattle.journal.specs.Runs.{Next, next_by, next_of, ahead_of, ahead_in, number_of, turned_of, Done, stopped, prefixed, run_of, ran_of}
use Rattle.journal.proofs.Turning.{fits, run_go, run_stop, prefixed_twice}

-- What comes next at a place of the bytes, by the numbers there.
pub by_numbers : (cs : List ℕ) (at room : ℕ) → next_of (drop at cs) room ≡ next_by (length cs - at) room (size (get_or cs at 0))
by_numbers cs at room = λ i. next_by (length-drop at cs i) room (size ((get_or-drop at cs 0 0 ∙ ap (λ (j : ℕ). get_or cs j 0) (add-zero at)) i))

-- The run d over cs with m lines, before a turn: n of the lines ls are written and `at` bytes used, and the run from there follows.
pub record Reached (cs : List ℕ) (m : ℕ) (d : Done) (at n : ℕ) (b : Book) (ls : List Line) : Type 0 where
  pub at_ok : at ≤ length cs
  pub n_ok : n ≤ m
  pub len : length ls ≡ m
  pub upto : d ≡ prefixed (take n ls) n at (run_of b (drop at cs) (drop n ls))

module _ {cs : List ℕ} {m : ℕ} {d : Done} {at n : ℕ} {b : Book} {ls : List Line} (z : Reached cs m d at n b ls) where
  -- What is left of the bytes, and what comes next.
  abbrev bytes : List ℕ
  bytes = drop at cs

  abbrev ahead : Next
  ahead = next_of bytes (length ls - n)

  -- A command that ends at a place.
  module _ (end : ℕ) (e : ahead_in at (Ok end) ≡ ahead_of at ahead) where
    goes : ahead.goes ≡ true
    goes = sym (λ i. (e i).goes)

    ends : end ≡ at + ahead.size
    ends = λ i. (e i).end

    -- It has a line, and ends among the bytes.
    pub has_line : n < length ls
    has_line = omega (arith, (fits bytes (length ls - n)).line goes)

    pub has_bytes : (at ≤ end) × (end ≤ length cs)
    has_bytes = (omega (arith, ends), omega (arith, ends, z.at_ok, (fits bytes (length ls - n)).there goes, length-drop at cs))

    -- The command, and what it leaves.
    abbrev command : List ℕ
    command = take (end - at) bytes

    abbrev line : Line
    line = (turned_of b command).line

    abbrev book : Book
    book = (turned_of b command).book

    -- The lines written, those after the next one, and all with the next one set.
    abbrev written : List Line
    written = take n ls

    abbrev others : List Line
    others = drop (suc n) ls

    abbrev lines : List Line
    lines = set ls n line

    sized : ahead.size ≡ end - at
    sized = omega (arith, ends)

    -- The first turn of the run that is left is one more of the whole.
    one_more : d ≡ prefixed (take (n + 1) lines) (n + 1) end (run_of book (drop end cs) (drop (n + 1) lines))
    one_more = z.upto ∙ first ∙ prefixed_twice written n at (line ∷ []) 1 ahead.size (run_of book (drop end cs) others) ∙ (λ i. prefixed (wrote i) (n + 1) (sym ends i) (run_of book (drop end cs) (kept i)))
      where
        left_is : suc (length others) ≡ length ls - n
        left_is = omega (arith, has_line, length-drop (suc n) ls)

        rest_is : drop ahead.size bytes ≡ drop end cs
        rest_is = drop-drop ahead.size at cs ∙ ap (λ (k : ℕ). drop k cs) (sym ends)

        first : prefixed written n at (run_of b bytes (drop n ls)) ≡ prefixed written n at (prefixed (line ∷ []) 1 ahead.size (run_of book (drop end cs) others))
        first = ap (prefixed written n at)
            (ap (run_of b bytes) (drop-cons ls n line has_line)
            ∙ run_go b bytes (get_or ls n line) others ahead (ap (next_of bytes) left_is) goes
            ∙ (λ i. prefixed ((turned_of b (take (sized i) bytes)).line ∷ []) 1 ahead.size (run_of (turned_of b (take (sized i) bytes)).book (rest_is i) others)))

        wrote : written ++ (line ∷ []) ≡ take (n + 1) lines
        wrote = sym (ap (λ (j : ℕ). take j lines) (add-one n) ∙ take-suc-set ls n line has_line)

        kept : others ≡ drop (n + 1) lines
        kept = sym (ap (λ (j : ℕ). drop j lines) (add-one n) ∙ drop-set-lt (suc n) ls n line (lt-suc_self n))

    -- After the turn.
    pub turned : (h : Book) (a : Answer) → (a ≡ (real_step b command).answer) × (h ≡ (real_step b command).book) → Reached cs m d end (n + 1) h (set ls n (record { answer = a }))
    unfolding turned_of
    turned h a e = rw (e.0, e.1) (record { at_ok = has_bytes.1; n_ok = omega (arith, has_line, z.len); len = length-set ls n line ∙ z.len; upto = one_more })

  -- Where nothing goes on, the run is what there is.
  pub ended : (c : Cause) → ahead_in at (Err c) ≡ ahead_of at ahead → (◌≡◌ {A = Ran} (record { lines = n; used = at; cause = number_of c }) (ran_of d)) × (b ≡ d.book) × (ls ≡ d.lines)
  ended c e = (
    (λ i. record { lines = sym (add-zero n) i; used = sym (add-zero at) i; cause = (e i).cause }) ∙ ap ran_of (sym all),
    sym (λ i. (all i).book),
    sym (take-append-drop n ls) ∙ sym (λ i. (all i).lines),
  )
    where
      all : d ≡ prefixed (take n ls) n at (stopped b (drop n ls) ahead.cause)
      all = z.upto ∙ ap (prefixed (take n ls) n at) (run_stop b bytes (drop n ls) ahead (ap (next_of bytes) (length-drop n ls)) (sym (λ i. (e i).goes)))
