-- The command that comes next with its line, as `next` says it, and what is collected with it.
use Prim.Native.Nat.{ℕ, ◌+◌, ◌-◌, ◌≤◌, ◌<◌, suc}
use native.Mathlib.Nat.{sub-zero, zero-add}
use native.Mathlib.Omega.{arith}
use mathlib.Core.Path.{◌≡◌, refl, sym}
use mathlib.Core.Bool.{Bool, true, false, cond}
use mathlib.Core.List.{List, [], ◌∷◌, ◌++◌}
use lib.Dec.{eqb}
use lib.ListN.{length, take, drop, length-append, length-drop}
use Rattle.std.specs.Prelude.{Result, Ok, Err}
use Rattle.machine.specs.Format.{opcode}
use Rattle.payments.specs.declared.lists.Payment.{Payment}
use Rattle.journal.specs.Runs.{Next, next_of, ahead_of, ahead_in}
use Rattle.journal.specs.declared.following.Cause.{Cause}
use Rattle.journal.specs.declared.lines.Line.{Line}
use Rattle.journal.proofs.Turning.{fits}
use Rattle.bank.specs.Collected.{above, paid_in, collected}
use Rattle.bank.proofs.Commands.{goes_whole, known, collected_stop, collected_go}

-- ---- what a command and its line pay

one_at_most : (p : Payment) → length (above p) ≤ 1
unfolding above
one_at_most p = go (eqb p.amount.0 0)
  where
    go : (x : Bool) → length (cond x [] (p ∷ [])) ≤ 1
    go true = omega arith
    go false = omega arith

two_at_most : (s : List ℕ) (l : Line) → length (paid_in s l) ≤ 2
unfolding paid_in
two_at_most s l = go (eqb (opcode s) 1) _ _
  where
    go : (x : Bool) (p q : Payment) → length (cond x [] (above p ++ above q)) ≤ 2
    go true p q = omega arith
    go false p q = omega (arith, length-append (above p) (above q), one_at_most p, one_at_most q)

-- ---- the command that comes next

module _ (cs : List ℕ) (ls : List Line) where
  abbrev ahead : Next
  ahead = next_of cs (length ls)

  abbrev pub Says : Result ℕ Cause → Type 0
  Says r = ahead_in 0 r ≡ ahead_of 0 (next_of (drop 0 cs) (length ls - 0))

  -- Where it says a cause, nothing is left to collect.
  pub ends : (c : Cause) → Says (Err c) → collected cs ls ≡ []
  ends c e = let g : (next_of cs (length ls - 0)).goes ≡ false = sym (λ i. (e i).goes) in collected_stop cs ls (rw sub-zero at g)

  -- Where it says a size, a line is there, and so many bytes, enough for a channel's number.
  module _ (n : ℕ) (e : Says (Ok n)) where
    goes : ahead.goes ≡ true
    goes = let g : (next_of cs (length ls - 0)).goes ≡ true = sym (λ i. (e i).goes) in rw sub-zero at g

    whole : n ≡ ahead.size
    whole = let w : n ≡ 0 + (next_of cs (length ls - 0)).size = λ i. (e i).end in rw (sub-zero, zero-add) at w

    pub has_line : 0 < length ls
    has_line = (fits cs (length ls)).line goes

    pub there : n ≤ length cs
    there = omega (arith, whole, (fits cs (length ls)).there goes)

    pub three : 3 ≤ n
    three = omega (arith, whole, (known cs (length ls) goes).three, goes_whole cs (length ls) goes)

    -- The command with the first line pays first, and then the others.
    pub pays : (l : Line) (rest : List Line) → ls ≡ l ∷ rest → collected cs ls ≡ paid_in (take n cs) l ++ collected (drop n cs) rest
    pays l rest s =
        let g : (next_of cs (suc (length rest))).goes ≡ true = rw s at goes in
        let w : n ≡ (next_of cs (suc (length rest))).size = rw s at whole in
        rw (s, w) (collected_go cs l rest g)

-- No more payments than bytes.
pub few : (cs : List ℕ) (ls : List Line) → length (collected cs ls) ≤ length cs
unfolding collected
few cs [] = omega arith
few cs (l ∷ ls) = go (next_of cs (suc (length ls))).goes (few (drop n cs) ls) refl
  where
    n : ℕ
    n = (next_of cs (suc (length ls))).size

    go : (x : Bool) → length (collected (drop n cs) ls) ≤ length (drop n cs) → (next_of cs (suc (length ls))).goes ≡ x → length (cond x (paid_in (take n cs) l ++ collected (drop n cs) ls) []) ≤ length cs
    go true r g =
        omega (arith, length-append (paid_in (take n cs) l) (collected (drop n cs) ls), two_at_most (take n cs) l, length-drop n cs, (known cs (suc (length ls)) g).three, goes_whole cs (suc (length ls)) g, (fits cs (suc (length ls))).there g)
    go false r g = omega arith
