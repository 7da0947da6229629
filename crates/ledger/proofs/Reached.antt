-- A list by computing, so that the third demand speaks of books that are reached, with a check that always says yes and a hash that changes
-- nothing, on a book opened with a default of two days, a fee of 250 and 1970-01-05, a Monday, in its list of dates: channel 2 is closed by
-- both; the customer closes channels 5 and 7, whose 02 has the delay 0, at second 1,000 of the first day. The deadline falls on Saturday, and
-- is moved over Sunday and the listed Monday to Tuesday, day 5; the clock shows the last second before it. On channel 5 the customer answers an
-- 08 with leaf 7, by a 07 with leaf 9; on channel 7 there is no 08, the 07 has leaf 1, and leaf 0 is not used. Channels 7 and 8 are the
-- merchant's alone to fund; channel 8 is reclaimed before he does.
use mathlib.Core.Path.{◌≡◌, refl}
use mathlib.Core.Bool.{true}
use mathlib.Core.List.{List, [], ◌∷◌, ◌++◌}
use Prim.Native.Nat.{ℕ, ◌/◌, ◌%◌}
use lib.ListN.{get_or, replicate}
use Rattle.wire.specs.Numbers.{u16_at, u32_at, u64_at}
use Rattle.wire.specs.Parts.{same}
use Rattle.calendar.specs.Calendar.{leap, month_days, before, since, day_number}
use Rattle.calendar.specs.Days.{weekend, listed, above, rising, skip, past, next_open, banked}
use Rattle.machine.specs.Format.{size, message}
use Rattle.machine.specs.Book.{total, held, sound_channel, sound, read_channel, reading}
use Rattle.machine.specs.Checks.{Verdict, ask}
use Rattle.machine.specs.Opening.{Opening, under, fresh}
use Rattle.machine.specs.Fee.{charged}
use Rattle.machine.specs.Rules.{delayed, keyed, answerable_at, establish, fund_customer, fund_merchant, reclaim, mutual_close, customer_close, merchant_close, dispute, settle}
use Rattle.machine.specs.Machine.{answer, concluded, ruling, verdict, plan, step}
use Rattle.ledger.specs.Ledger.{Standing, after}

-- The leaf is the fourth byte.
unfoldable pub yes : List ℕ → List ℕ → List ℕ → Verdict
yes key text signature = record { good = true; steps = 510; leaf = get_or signature 3 0 }

unfoldable pub plain : List ℕ → List ℕ
plain x = x

abbrev pub two : ℕ → List ℕ
two n = n / 256 % 256 ∷ n % 256 ∷ []

abbrev pub eight : ℕ → List ℕ
eight n = replicate 5 0 ++ n / 65536 % 256 ∷ two n

abbrev pub key : ℕ → List ℕ
key x = replicate 3 0 ++ 6 ∷ replicate 3 0 ++ 4 ∷ replicate 48 x

-- With these deposits and this delay.
abbrev agrees : ℕ → ℕ → ℕ → ℕ → List ℕ
agrees n customer merchant delay = 2 ∷ two n ++ key 1 ++ key 2 ++ eight customer ++ eight merchant ++ replicate 2 0 ++ two delay

abbrev pub establishes : ℕ → ℕ → List ℕ
establishes n delay = agrees n 900 100 delay

abbrev pub funds : ℕ → ℕ → ℕ → List ℕ
funds op n cents = op ∷ two n ++ eight cents

abbrev clocks : ℕ → List ℕ
clocks t = 1 ∷ eight t

-- A signature with this leaf.
abbrev signs : ℕ → List ℕ
signs leaf = replicate 3 0 ++ leaf ∷ replicate 1448 0

abbrev closes : ℕ → ℕ → ℕ → ℕ → List ℕ
closes n customer merchant leaf = 7 ∷ two n ++ replicate 32 5 ++ eight customer ++ eight merchant ++ signs leaf ++ signs 8

abbrev pub disputes : ℕ → ℕ → List ℕ
disputes n leaf = 9 ∷ two n ++ replicate 32 5 ++ signs leaf

abbrev pub opens : Opening
opens = under (record { delay = 172800; fee = 250; dated = true }) (19700105 ∷ []) (replicate 16 0)

-- The sixth string, 03 with 899, is refused.
abbrev pub list : List (List ℕ)
list =
    clocks 1000
    ∷ establishes 2 3600
    ∷ funds 3 2 900
    ∷ funds 4 2 100
    ∷ establishes 5 0
    ∷ funds 3 5 899
    ∷ funds 3 5 900
    ∷ funds 4 5 100
    ∷ (6 ∷ two 2 ++ eight 400 ++ eight 600 ++ replicate 2904 0)
    ∷ (8 ∷ two 5 ++ signs 7)
    ∷ closes 5 700 300 9
    ∷ agrees 7 0 100 0
    ∷ funds 4 7 100
    ∷ closes 7 70 30 1
    ∷ agrees 8 0 100 0
    ∷ (5 ∷ two 8 ++ replicate 1452 0)
    ∷ clocks 431999
    ∷ []

unfoldable pub standing : List (List ℕ) → Standing
standing l = after yes plain (record { book = fresh opens; history = [] }) l

record Reached (t : Standing) : Type 0 where
  status : (reading t.book 5).status ≡ 5
  holds : (reading t.book 5).held.0 ≡ 700
  deadline : (reading t.book 5).deadline.0 ≡ 432000
  disputed : (step yes plain t.book (disputes 5 8)).answer.refusal ≡ 0
  pays : (step yes plain t.book (disputes 5 8)).answer.merchant.0 ≡ 683
  charges : (step yes plain t.book (disputes 5 8)).answer.fee.0 ≡ 17
  steps : (step yes plain t.book (disputes 5 8)).answer.steps ≡ 510
  spent_07 : (step yes plain t.book (disputes 5 9)).answer.refusal ≡ 16
  spent_08 : (step yes plain t.book (disputes 5 7)).answer.refusal ≡ 16
  spent_steps : (step yes plain t.book (disputes 5 7)).answer.steps ≡ 510
  spent_alone : (step yes plain t.book (disputes 7 1)).answer.refusal ≡ 16
  settles : (step yes plain t.book (10 ∷ two 5)).answer.refusal ≡ 9
  late : (step yes plain (step yes plain t.book (clocks 432000)).book (disputes 5 8)).answer.refusal ≡ 9
  credit_pays : (step yes plain t.book (disputes 7 0)).answer.merchant.0 ≡ 69
  reclaimed : (reading t.book 8).status ≡ 6

reached : Reached (standing list)
unfolding yes plain standing u16_at u32_at u64_at same size message total held sound_channel sound fresh read_channel reading ask delayed keyed leap month_days before since day_number weekend listed above rising skip past next_open banked answerable_at establish fund_customer fund_merchant reclaim mutual_close customer_close merchant_close dispute settle answer concluded ruling verdict plan charged step after
reached = record { status = refl; holds = refl; deadline = refl; disputed = refl; pays = refl; charges = refl; steps = refl; spent_07 = refl; spent_08 = refl; spent_steps = refl; spent_alone = refl; settles = refl; late = refl; credit_pays = refl; reclaimed = refl }
