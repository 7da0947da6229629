-- The third demand applied to the list of `Reached`, claim by claim, so that a weaker claim would be seen.
use mathlib.Core.Path.{◌≡◌, refl}
use mathlib.Core.Bool.{true, false≢true}
use mathlib.Core.List.{List, [], ◌∷◌, ◌++◌}
use Prim.Native.Nat.{ℕ, ◌+◌, ◌<◌}
use native.Mathlib.Omega.{arith}
use borrow.Author.Tests.{eqb-false}
use Rattle.wire.specs.Numbers.{u16_at, u32_at, u64_at}
use Rattle.wire.specs.Parts.{same}
use Rattle.calendar.specs.Calendar.{leap, month_days, before, since, day_number}
use Rattle.calendar.specs.Days.{weekend, listed, above, rising, skip, past, next_open, banked}
use Rattle.machine.specs.Format.{size, message}
use Rattle.machine.specs.Book.{total, held, sound_channel, sound, read_channel, reading}
use Rattle.machine.specs.Checks.{ask}
use Rattle.machine.specs.Opening.{blank_book, fresh, opening}
use Rattle.machine.specs.Fee.{fee_of, charged}
use Rattle.machine.specs.Rules.{delayed, keyed, answerable_at, establish, fund_customer, fund_merchant, reclaim, mutual_close, customer_close, merchant_close, dispute, settle}
use Rattle.machine.specs.Machine.{answer, concluded, ruling, verdict, plan, step}
use Rattle.ledger.specs.Ledger.{Shares, shares, nothing, paid_by, entry_at, clock, strings, sum, opcodes, member, has, event_of, paid, by_merchant, after, Accounted}
use Rattle.ledger.proofs.Reached.{yes, plain, opens, list, disputes, standing}
use Rattle.ledger.proofs.ThirdDemand.{third_demand}

-- The claim of channel n, after a list given to the book just opened.
abbrev AccountedAt : List (List ℕ) → ℕ → Type 0
AccountedAt l n = Accounted yes plain opens (standing l).book (standing l).history n (strings n (standing l).history)

accounted : (l : List (List ℕ)) (n : ℕ) → n < 64 → AccountedAt l n
unfolding opening ask standing leap month_days before since day_number above rising
accounted l n p = third_demand yes plain blank_book opens refl l n p

abbrev parts : ℕ → ℕ → Shares
parts customer merchant = record { customer = customer; merchant = merchant }

-- In the last second the disputes of channels 5 and 7 are accepted, with leaves that were not used, on channel 7, where there is no 08, with
-- leaf 0; the leaf of an accepted one was neither the 07's nor the 08's, and its signature is good. The equation and the splits with their
-- figures: channels 5 and 7, the merchant's alone, before and after the dispute, channel 2, and channel 8, reclaimed without a deposit. The
-- refused 03 and the first 01 pay nothing. The fees of channel 5, of 300 and then of 700, are 7 and 17.
record Applied : Type 0 where
  accepted : (step yes plain (standing list).book (disputes 5 8)).answer.refusal ≡ 0
  closing : 1000 ≡ 700 + 0 + 293 + 7
  over : 1000 ≡ 0 + 0 + 976 + 24
  agreed : 1000 ≡ 0 + 400 + 585 + 15
  disputed : shares (paid (strings 5 (standing (list ++ disputes 5 8 ∷ [])).history)) ≡ parts 0 1000
  first_fee : 7 ≡ fee_of 250 (293 + 7)
  second_fee : 17 ≡ fee_of 250 (683 + 17)
  good_09 : (by_merchant yes opens (strings 5 (standing (list ++ disputes 5 8 ∷ [])).history) 9 (disputes 5 8)).good ≡ true
  closed_first : has 7 (strings 5 (standing (list ++ disputes 5 8 ∷ [])).history) ≡ true
  leaf_07 : ◌≡◌ {A = ℕ} 8 9 → ⊥
  leaf_08 : ◌≡◌ {A = ℕ} 8 7 → ⊥
  split : shares (paid (strings 2 (standing list).history)) ≡ parts 400 600
  credit_accepted : (step yes plain (standing list).book (disputes 7 0)).answer.refusal ≡ 0
  credit_closing : 100 ≡ 70 + 0 + 30 + 0
  credit_over : 100 ≡ 0 + 0 + 99 + 1
  credit_disputed : shares (paid (strings 7 (standing (list ++ disputes 7 0 ∷ [])).history)) ≡ parts 0 100
  unfunded : 0 ≡ 0 + 0 + 0 + 0
  reclaimed : shares (paid (strings 8 (standing list).history)) ≡ parts 0 0
  refused : paid_by (entry_at (standing list).history 11).answer ≡ nothing
  timed : paid_by (entry_at (standing list).history 16).answer ≡ nothing

applied : Applied
unfolding yes plain standing u16_at u32_at u64_at same size message total held sound_channel sound fresh read_channel reading ask delayed keyed leap month_days before since day_number weekend listed above rising skip past next_open banked answerable_at establish fund_customer fund_merchant reclaim mutual_close customer_close merchant_close dispute settle answer concluded ruling verdict plan charged step after clock strings opcodes member event_of sum
applied =
    let before = accounted list 5 (omega arith) in
    let after = accounted (list ++ disputes 5 8 ∷ []) 5 (omega arith) in
    let both = accounted list 2 (omega arith) in
    let credit = accounted list 7 (omega arith) in
    let credit-after = accounted (list ++ disputes 7 0 ∷ []) 7 (omega arith) in
    let returned = accounted list 8 (omega arith) in
    record {
      accepted = before.dispute (record { closing = refl; undisputed = refl; unsettled = refl; early = omega arith }) (disputes 5 8) (record { code = refl; whole = refl; named = refl; opens = refl; good = refl; unspent = record { of_07 = eqb-false 8 9 refl; of_08 = λ _. eqb-false 8 7 refl } });
      closing = before.conserved;
      over = after.conserved;
      agreed = both.conserved;
      disputed = after.disputed refl;
      first_fee = before.divided 6 (omega arith);
      second_fee = after.divided 0 (omega arith);
      good_09 = after.signed 9 refl refl;
      closed_first = after.follows refl;
      leaf_07 = (after.leaf_once refl).of_07;
      leaf_08 = (after.leaf_once refl).of_08 refl;
      split = both.splits refl;
      credit_accepted = credit.dispute (record { closing = refl; undisputed = refl; unsettled = refl; early = omega arith }) (disputes 7 0) (record { code = refl; whole = refl; named = refl; opens = refl; good = refl; unspent = record { of_07 = eqb-false 0 1 refl; of_08 = λ h. absurd (false≢true h) } });
      credit_closing = credit.conserved;
      credit_over = credit-after.conserved;
      credit_disputed = credit-after.disputed refl;
      unfunded = returned.conserved;
      reclaimed = returned.splits refl;
      refused = before.elsewhere 11 (omega arith) refl;
      timed = before.elsewhere 16 (omega arith) refl;
    }
