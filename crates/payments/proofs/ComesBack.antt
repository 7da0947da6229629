-- What was written comes back, and an accepted byte string is the only one for its list: `BankLines`.
use Prim.Native.Nat.{ℕ, ◌*◌, ◌/◌, ◌%◌, ◌≤◌}
use native.Mathlib.Omega.{arith}
use mathlib.Core.Path.{◌≡◌, refl, sym, ap, ◌∙◌}
use mathlib.Core.Bool.{Bool, true, false, ◌&&◌}
use mathlib.Core.List.{List, map}
use borrow.Author.Tests.{leb-true, le-leb, eq-eqb, eqb-true}
use lib.Dec.{eqb, leb}
use lib.ListN.{length, take, length-map}
use Rattle.wire.specs.Parts.{pasted, all}
use Rattle.wire.proofs.Laws.{and_both, and_make}
use Rattle.wire.proofs.Pasting.{take-pasted}
use Rattle.payments.specs.declared.lists.Payment.{Payment}
use Rattle.payments.specs.Payments.{listed, payment_of}
use Rattle.payments.specs.Packed.{entry, written, parted, entries_of, payment_in, good}
use Rattle.payments.specs.Answers.{accepted, writable, Written, Filled, write_of, read_of}
use Rattle.payments.specs.BankLines.{wrote, got, BankLines}
use Rattle.payments.proofs.Answering.{write_17, write_18, write_0, read_18, read_19, read_0}
use Rattle.payments.proofs.Listing.{read_length, written_length}
use Rattle.payments.proofs.RoundTrips.{parted_written, all_back, all_written, listed_back}

-- ---- a list that was written

module _ (l : List Payment) (b : List ℕ) (h : (write_of l b).answer.refusal ≡ 0) where
  wrote_all : (all writable l ≡ true) × (11 * length l ≤ length b)
  wrote_all = go (all writable l) (leb (11 * length l) (length b)) refl refl
    where
      go : (x y : Bool) → all writable l ≡ x → leb (11 * length l) (length b) ≡ y → (all writable l ≡ true) × (11 * length l ≤ length b)
      go false y p q = absurd (omega (arith, ap (λ (w : Written). w.answer.refusal) (write_17 l b p)))
      go true false p q = absurd (omega (arith, ap (λ (w : Written). w.answer.refusal) (write_18 l b p q)))
      go true true p q = (p, leb-true (11 * length l) (length b) q)

  wrote_is : wrote l b ≡ written l
  wrote_is =
      let w = write_0 l b wrote_all.0 (le-leb (11 * length l) (length b) wrote_all.1) in
      ap (λ (x : Written). take (11 * length l) x.buffer) w ∙ rw (written_length l) at (take-pasted b (written l))

-- ---- a byte string that is accepted

abbrev payments : List ℕ → List Payment
payments x = map payment_in (entries_of x)

module _ (x : List ℕ) (list : List (List ℕ)) where
  abbrev fits : Bool
  fits = eqb (length x % 11) 0 && leb (length x / 11) (length list)

  abbrev reads : Filled
  reads = record { answer = accepted (length (payments x)); list = pasted list 0 (map listed (payments x)) }

  module _ (h : (read_of x list).answer.refusal ≡ 0) where
    read_all : (fits ≡ true) × (all good (entries_of x) ≡ true)
    read_all = go fits (all good (entries_of x)) refl refl
      where
        go : (a b : Bool) → fits ≡ a → all good (entries_of x) ≡ b → (fits ≡ true) × (all good (entries_of x) ≡ true)
        go false b p q = absurd (omega (arith, ap (λ (r : Filled). r.answer.refusal) (read_18 x list p)))
        go true false p q = absurd (omega (arith, ap (λ (r : Filled). r.answer.refusal) (read_19 x list p q)))
        go true true p q = (p, q)

    read_is : read_of x list ≡ reads
    read_is = read_0 x list read_all.0 read_all.1

    got_is : got (read_of x list) ≡ map listed (payments x)
    got_is = ap got read_is ∙ rw (length-map (payments x) listed) at (take-pasted list (map listed (payments x)))

    got_payments : map payment_of (got (read_of x list)) ≡ payments x
    got_payments = ap (map payment_of) got_is ∙ listed_back (payments x)

    whole : length x ≡ 11 * (length x / 11)
    whole = let k = eqb-true (length x % 11) 0 (and_both (eqb (length x % 11) 0) (leb (length x / 11) (length list)) read_all.0).0 in omega arith

    written_is : (written (payments x) ≡ x) × (all writable (payments x) ≡ true)
    written_is = all_written (length x / 11) x whole read_all.1

    -- Its payments, written again.
    written_again : (b : List ℕ) → length x ≤ length b → write_of (payments x) b ≡ record { answer = accepted (length (got (read_of x list))); buffer = pasted b 0 x }
    written_again b k =
        let n : length (got (read_of x list)) ≡ length (payments x) = ap length got_is ∙ length-map (payments x) listed in
        write_0 (payments x) b written_is.1 (le-leb (11 * length (payments x)) (length b) (omega (arith, whole, read_length x)))
        ∙ λ i. record { answer = accepted (sym n i); buffer = pasted b 0 (written_is.0 i) }

-- ---- the claims

comes_back : (l : List Payment) (list : List (List ℕ)) → all writable l ≡ true → length l ≤ length list
    → read_of (written l) list ≡ record { answer = accepted (length l); list = pasted list 0 (map listed l) }
comes_back l list h k =
    let n = written_length l in
    let d : length (written l) / 11 ≡ length l = omega (arith, n) in
    let m : length (written l) % 11 ≡ 0 = omega (arith, n) in
    let e : entries_of (written l) ≡ map entry l = ap (λ (j : ℕ). parted j (written l)) d ∙ parted_written l in
    let b = all_back l h in
    let p : payments (written l) ≡ l = ap (map payment_in) e ∙ b.1 in
    read_0 (written l) list (and_make (eq-eqb _ _ m) (rw d (le-leb (length l) (length list) k))) (ap (all good) e ∙ b.0)
    ∙ λ i. record { answer = accepted (length (p i)); list = pasted list 0 (map listed (p i)) }

pub bank_lines : BankLines
bank_lines = record {
  returns = λ l b list h k. ap (λ (x : List ℕ). read_of x list) (wrote_is l b h) ∙ comes_back l list (wrote_all l b h).0 k;
  only = λ x y list other h k e.
      sym (written_is x list h).0 ∙ ap written (sym (got_payments x list h) ∙ ap (map payment_of) e ∙ got_payments y other k) ∙ (written_is y other k).0;
  again = λ x list b h k. ap (λ (l : List Payment). write_of l b) (got_payments x list h) ∙ written_again x list h b k;
}
