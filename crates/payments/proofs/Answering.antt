-- What writing and reading answer, by the first check that says no.
use Prim.Native.Nat.{ℕ, ◌*◌, ◌/◌, ◌%◌}
use mathlib.Core.Path.{◌≡◌}
use mathlib.Core.Bool.{true, false, ◌&&◌}
use mathlib.Core.List.{List, map}
use lib.Dec.{eqb, leb}
use lib.ListN.{length}
use Rattle.wire.specs.Parts.{pasted, all}
use Rattle.machine.specs.Checks.{ask}
use Rattle.payments.specs.declared.lists.Payment.{Payment}
use Rattle.payments.specs.Payments.{listed}
use Rattle.payments.specs.Packed.{written, entries_of, payment_in, good}
use Rattle.payments.specs.Answers.{accepted, refused, refusal_of, writable, write_of, filled, read_of}

-- Writing.
module _ (l : List Payment) (b : List ℕ) where
  pub write_17 : all writable l ≡ false → write_of l b ≡ record { answer = refused 17; buffer = b }
  unfolding write_of refusal_of ask
  write_17 e = rw e

  pub write_18 : all writable l ≡ true → leb (11 * length l) (length b) ≡ false → write_of l b ≡ record { answer = refused 18; buffer = b }
  unfolding write_of refusal_of ask
  write_18 e h = rw (e, h)

  pub write_0 : all writable l ≡ true → leb (11 * length l) (length b) ≡ true → write_of l b ≡ record { answer = accepted (length l); buffer = pasted b 0 (written l) }
  unfolding write_of refusal_of ask
  write_0 e h = rw (e, h)

-- Reading.
module _ (x : List ℕ) (list : List (List ℕ)) where
  pub read_18 : (eqb (length x % 11) 0 && leb (length x / 11) (length list)) ≡ false → read_of x list ≡ record { answer = refused 18; list = list }
  unfolding filled refusal_of ask
  read_18 e = rw e

  pub read_19 : (eqb (length x % 11) 0 && leb (length x / 11) (length list)) ≡ true → all good (entries_of x) ≡ false → read_of x list ≡ record { answer = refused 19; list = list }
  unfolding filled refusal_of ask
  read_19 e h = rw (e, h)

  pub read_0 : (eqb (length x % 11) 0 && leb (length x / 11) (length list)) ≡ true → all good (entries_of x) ≡ true
      → read_of x list ≡ record { answer = accepted (length (map payment_in (entries_of x))); list = pasted list 0 (map listed (map payment_in (entries_of x))) }
  unfolding filled refusal_of ask
  read_0 e h = rw (e, h)
