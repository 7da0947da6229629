-- Document 02, No. 6: what writing and reading answer, and the buffer or the lent list after them.
use Rattle.std.specs.Prelude.{ℕ, ◌*◌, ◌/◌, ◌%◌, Bool, cond, not, ◌&&◌, List, [], ◌∷◌, map, eqb, leb, length, Result, Ok, Err}
use Rattle.wire.specs.Parts.{pasted, all}
use Rattle.machine.specs.Checks.{Check, test, clean, judge}
use Rattle.payments.specs.Payments.{is_party, listed}
use Rattle.payments.specs.Packed.{written, entries_of, payment_in, good}
use Rattle.payments.specs.declared.lists.Counted.{Counted}
use Rattle.payments.specs.declared.lists.Payment.{Payment}
use Rattle.payments.specs.declared.lists.Refusal.{Refusal}
use Rattle.payments.specs.declared.lists.Refusal.TheVariants.{Unwritable, NoRoom, BadEntry}

-- ---- the refusal and the number of payments, 0 where refused

abbrev pub accepted : ℕ → Counted
accepted n = record { refusal = 0; payments = n }

abbrev pub refused : ℕ → Counted
refused r = record { refusal = r; payments = 0 }

abbrev pub number_of : Refusal → ℕ
number_of Unwritable = 17
number_of NoRoom = 18
number_of BadEntry = 19

-- What C is told of an answer.
abbrev pub counted_of : Result ℕ Refusal → Counted
counted_of (Ok n) = accepted n
counted_of (Err r) = refused (number_of r)

-- The first check that says no decides.
unfoldable pub refusal_of : List Check → ℕ
refusal_of l = (judge clean l).refusal

abbrev pub counted : ℕ → ℕ → Counted
counted r n = cond (eqb r 0) (accepted n) (refused r)

-- ---- writing to a lent buffer

unfoldable pub writable : Payment → Bool
writable p = is_party p.party && leb p.channel 63 && not (eqb p.amount.0 0) && leb p.amount.0 999999999999999

abbrev pub writing_checks : List Payment → ℕ → List Check
writing_checks l room =
    test 17 (all writable l)
    ∷ test 18 (leb (11 * length l) room)
    ∷ []

-- A refused call keeps every byte; so do the bytes behind the last entry.
pub record Written : Type 0 where
  pub answer : Counted
  pub buffer : List ℕ

unfoldable pub write_of : List Payment → List ℕ → Written
write_of l buffer =
    let r = refusal_of (writing_checks l (length buffer)) in
    record { answer = counted r (length l); buffer = cond (eqb r 0) (pasted buffer 0 (written l)) buffer }

-- ---- payments to a lent list, as in reading and collecting

-- A refused call keeps every entry of the list; so do the entries behind the last payment.
pub record Filled : Type 0 where
  pub answer : Counted
  pub list : List (List ℕ)

unfoldable pub filled : List Check → List Payment → List (List ℕ) → Filled
filled checks ps list =
    let r = refusal_of checks in
    record { answer = counted r (length ps); list = cond (eqb r 0) (pasted list 0 (map listed ps)) list }

abbrev pub reading_checks : List ℕ → ℕ → List Check
reading_checks x room =
    test 18 (eqb (length x % 11) 0 && leb (length x / 11) room)
    ∷ test 19 (all good (entries_of x))
    ∷ []

abbrev pub read_of : List ℕ → List (List ℕ) → Filled
read_of x list = filled (reading_checks x (length list)) (map payment_in (entries_of x)) list
