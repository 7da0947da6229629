-- Commands and lines side by side: the command that comes next, and what is collected with it.
use Prim.Native.Nat.{ℕ, zero, suc, ◌≤◌, ◌<◌}
use native.Mathlib.Omega.{arith}
use mathlib.Core.Path.{◌≡◌, refl}
use mathlib.Core.Bool.{Bool, true, false, cond, false≢true}
use mathlib.Core.List.{List, [], ◌∷◌, ◌++◌}
use borrow.Author.Tests.{leb-true, leb-false}
use lib.Dec.{leb, eqb, ltb}
use lib.ListN.{length, take, drop, get_or-eq_default}
use Rattle.machine.specs.Format.{opcode, size}
use Rattle.journal.specs.Runs.{Next, stop, next_by, next_of}
use Rattle.journal.specs.declared.lines.Line.{Line}
use Rattle.journal.proofs.Turning.{fits}
use Rattle.bank.specs.Collected.{paid_in, collected}

-- ---- a command that goes

-- Its size is that of its first byte.
record Sized (w : ℕ) (n : Next) : Type 0 where
  whole : n.goes ≡ true → n.size ≡ w

by_test : {w : ℕ} (t : Bool) {n m : Next} → Sized w n → Sized w m → Sized w (cond t n m)
by_test true f g = f
by_test false f g = g

stops : {w : ℕ} (c : ℕ) → Sized w (stop c)
stops c = record { whole = λ e. absurd (false≢true e) }

sized : (cs : List ℕ) (room : ℕ) → Sized (size (opcode cs)) (next_of cs room)
unfolding next_by
sized cs room =
    let w = size (opcode cs) in
    by_test (eqb (length cs) 0) (stops 0) (by_test (eqb room 0) (stops 13) (by_test (eqb w 0) (stops 1) (by_test (ltb (length cs) w) (stops 2) (record { whole = λ _. refl }))))

pub goes_whole : (cs : List ℕ) (room : ℕ) → (next_of cs room).goes ≡ true → (next_of cs room).size ≡ size (opcode cs)
goes_whole cs room = (sized cs room).whole

-- Its first byte is 01 to 0A, and it has a channel's number, or is longer.
pub record Known (op : ℕ) : Type 0 where
  pub first : 1 ≤ op
  pub last : op ≤ 10
  pub three : 3 ≤ size op

-- Each command is long enough for one.
least : (op : ℕ) → 1 ≤ op → op ≤ 10 → 3 ≤ size op
unfolding size
least zero l h = absurd (omega arith)
least (suc zero) l h = omega arith
least (suc (suc zero)) l h = omega arith
least (suc (suc (suc zero))) l h = omega arith
least (suc (suc (suc (suc zero)))) l h = omega arith
least (suc (suc (suc (suc (suc zero))))) l h = omega arith
least (suc (suc (suc (suc (suc (suc zero)))))) l h = omega arith
least (suc (suc (suc (suc (suc (suc (suc zero))))))) l h = omega arith
least (suc (suc (suc (suc (suc (suc (suc (suc zero)))))))) l h = omega arith
least (suc (suc (suc (suc (suc (suc (suc (suc (suc zero))))))))) l h = omega arith
least (suc (suc (suc (suc (suc (suc (suc (suc (suc (suc zero)))))))))) l h = omega arith
least (suc (suc (suc (suc (suc (suc (suc (suc (suc (suc (suc n))))))))))) l h = absurd (omega arith)

known_size : (op : ℕ) → 0 < size op → Known op
unfolding size
known_size zero h = absurd (omega arith)
known_size (suc n) h = go (leb (suc n) 10) refl
  where
    go : (x : Bool) → leb (suc n) 10 ≡ x → Known (suc n)
    go true e = let l = leb-true (suc n) 10 e in record { first = omega arith; last = l; three = least (suc n) (omega arith) l }
    go false e =
        let l : 11 ≤ suc n = leb-false (suc n) 10 e in
        let z : size (suc n) ≡ 0 = get_or-eq_default (0 ∷ 9 ∷ 135 ∷ 11 ∷ 11 ∷ 1455 ∷ 2923 ∷ 2955 ∷ 1455 ∷ 1487 ∷ 3 ∷ []) 0 l in
        absurd (omega (arith, z))

pub known : (cs : List ℕ) (room : ℕ) → (next_of cs room).goes ≡ true → Known (opcode cs)
known cs room g = known_size (opcode cs) (omega (arith, (fits cs room).some g, goes_whole cs room g))

-- ---- what is collected

pub collected_stop : (cs : List ℕ) (ls : List Line) → (next_of cs (length ls)).goes ≡ false → collected cs ls ≡ []
unfolding collected
collected_stop cs [] g = refl
collected_stop cs (l ∷ ls) g = rw g

pub collected_go : (cs : List ℕ) (l : Line) (ls : List Line) → (next_of cs (suc (length ls))).goes ≡ true
    → collected cs (l ∷ ls) ≡ paid_in (take (next_of cs (suc (length ls))).size cs) l ++ collected (drop (next_of cs (suc (length ls))).size cs) ls
unfolding collected
collected_go cs l ls g = rw g
