-- Document 01, "Figures at the edges": the starred rows, on the rules with verdicts given. Document 02, No. 2: rows of an account that only
-- the merchant funds; No. 5: rows of disputes by their leaf; No. 7: fees; No. 8: moved deadlines and lists of dates;
-- No. 9: what is due first.
use Rattle.std.specs.Prelude.{◌≡◌, Bool, true, false, List, [], ◌∷◌, ℕ, ◌+◌, ◌-◌, ◌^◌, ◌≤◌, length, take, replicate}
use Rattle.lms.specs.OneTime.{step_count}
use Rattle.machine.specs.Book.{cents, seconds, party, remembered, with_channel, read_channel}
use Rattle.machine.specs.Checks.{Verdict}
use Rattle.machine.specs.Opening.{under, plainly, setup_of, fresh, opening}
use Rattle.machine.specs.Fee.{fee_of}
use Rattle.machine.specs.Rules.{Plan, keyed, establish, fund_customer, fund_merchant, reclaim, mutual_close, customer_close, merchant_close, dispute, settle}
use Rattle.machine.specs.Machine.{ruling}
use Rattle.machine.specs.Due.{number, due}
use Rattle.machine.specs.declared.state.Leaves.{Leaves}
use Rattle.machine.specs.declared.state.Channel.{Channel}
use Rattle.machine.specs.declared.state.Context.{Context}
use Rattle.machine.specs.declared.state.Settings.{Settings}
use Rattle.machine.specs.declared.state.Book.{Book}
use Rattle.machine.specs.Answered.{Ruled}

abbrev pub settings : ℕ → ℕ → Bool → Settings
settings default fee dated = record { delay = default; fee = fee; dated = dated }

-- What a row shows: refusal and payments before the fee, then the reading's status, held and deadline.
pub record Row : Type 0 where
  pub refusal : ℕ
  pub customer : ℕ
  pub merchant : ℕ
  pub status : ℕ
  pub held : ℕ
  pub deadline : ℕ

abbrev pub row : ℕ → ℕ → ℕ → ℕ → ℕ → ℕ → Row
row refusal customer merchant status held deadline = record {
  refusal = refusal;
  customer = customer;
  merchant = merchant;
  status = status;
  held = held;
  deadline = deadline;
}

abbrev pub shown : Ruled → Row
shown r =
    row r.answer.refusal r.answer.customer.0 r.answer.merchant.0 (read_channel r.channel).status (read_channel r.channel).held.0 (read_channel r.channel).deadline.0

-- A rule on a channel.
abbrev pub by : (Channel → Plan) → Channel → Row
by rule ch = shown (ruling ch (rule ch))

abbrev pub good : ℕ → ℕ → Verdict
good steps leaf = record { good = true; steps = steps; leaf = leaf }

-- The channel that a rule leaves.
abbrev pub left : (Channel → Plan) → Channel → Channel
left rule ch = (ruling ch (rule ch)).channel

-- With any keys and lock, any deadline d, kept part x and leaves before a closing, any step counts v and w, any leaf q, in a dispute in time one
-- that is not remembered, and any id, default and fee of a book without a list of dates.
module _ (key other lock id : List ℕ) (d x v w q default fee : ℕ) (used : Leaves) where
  -- A book whose clock shows this time.
  abbrev pub showing : ℕ → Context
  showing t = record { id = id; clock = seconds t; setup = setup_of (under (settings default fee false) [] id) }

  -- Delay 3,600.
  abbrev pub account : ℕ → ℕ → ℕ → ℕ → ℕ → Channel
  account customer merchant status deadline kept = record {
    status = status;
    customer = party key customer;
    merchant = party other merchant;
    delay = 3600;
    deadline = seconds deadline;
    kept = cents kept;
    lock = lock;
    leaves = used;
  }

  -- D_c 900, D_b 100.
  abbrev pub example : ℕ → ℕ → ℕ → Channel
  example = account 900 100

  -- D_c 0, D_b 100.
  abbrev pub credit : ℕ → ℕ → ℕ → Channel
  credit = account 0 100

  -- What a 02 with these deposits shows on a channel that is not used, where check 6 passes the keys.
  abbrev pub Agreeing : ℕ → ℕ → Row → Type 0
  Agreeing customer merchant r = keyed key other ≡ true → by (establish (showing 1000) (party key customer) (party other merchant) 3600) (example 0 d x) ≡ r

  -- A closing of either side at 1,000, and a dispute, with this leaf of the merchant.
  abbrev pub merchant_closes : ℕ → Channel → Plan
  merchant_closes leaf = merchant_close (showing 1000) (good v leaf)

  abbrev pub closes : ℕ → Channel → Plan
  closes leaf = customer_close (showing 1000) lock 700 300 (good v leaf) (good w q)

  abbrev pub disputes : ℕ → ℕ → Channel → Plan
  disputes t leaf = dispute (showing t) lock (good v leaf)

  -- The customer's closing, with the second leaf, answers the merchant's, with the first.
  abbrev pub answering : ℕ → ℕ → Channel
  answering first second = left (closes second) (left (merchant_closes first) (example 3 d x))

  pub record Figures : Type 0 where
    pub funds_900 : by (fund_customer 900) (example 1 d x) ≡ row 0 0 0 2 900 0
    pub funds_899 : by (fund_customer 899) (example 1 d x) ≡ row 8 0 0 1 0 0
    pub funds_100 : by (fund_merchant 100) (example 2 d x) ≡ row 0 0 0 3 1000 0
    pub agrees_600 : by (mutual_close 400 600 (good v q) (good w q)) (example 3 d x) ≡ row 0 400 600 6 0 0
    pub agrees_601 : by (mutual_close 400 601 (good v q) (good w q)) (example 3 d x) ≡ row 8 0 0 3 1000 0
    pub wraps : by (mutual_close (2 ^ 64 - 1) 1001 (good v q) (good w q)) (example 3 d x) ≡ row 8 0 0 3 1000 0
    pub closes_at_1000 : by (closes q) (example 3 d x) ≡ row 0 0 300 5 700 4600
    pub disputes_at_4599 : remembered q (example 5 4600 700) ≡ false → by (disputes 4599 q) (example 5 4600 700) ≡ row 0 0 700 6 0 0
    pub disputes_at_4600 : by (disputes 4600 q) (example 5 4600 700) ≡ row 9 0 0 5 700 4600
    pub settles_at_4599 : by (settle (showing 4599)) (example 5 4600 700) ≡ row 9 0 0 5 700 4600
    pub settles_at_4600 : by (settle (showing 4600)) (example 5 4600 700) ≡ row 0 700 0 6 0 0
    pub credits_100 : Agreeing 0 100 (row 0 0 0 2 0 0)
    pub credits_reclaimed : by (reclaim (good v q)) (credit 2 d x) ≡ row 0 0 0 6 0 0
    pub credits_funded : by (fund_merchant 100) (credit 2 d x) ≡ row 0 0 0 3 100 0
    pub credits_customer : by (fund_customer 0) (credit 2 d x) ≡ row 5 0 0 2 0 0
    pub credits_nothing : Agreeing 0 0 (row 8 0 0 0 0 0)
    pub credits_most : Agreeing 0 (2 ^ 63 - 1) (row 0 0 0 2 0 0)
    pub credits_more : Agreeing 0 (2 ^ 63) (row 8 0 0 0 0 0)
    pub sums_to_more : Agreeing (2 ^ 63 - 1) 1 (row 8 0 0 0 0 0)
    pub customer_alone : Agreeing 900 0 (row 0 0 0 1 0 0)
    pub disputes_with_7 : by (disputes 4599 7) (answering 7 9) ≡ row 16 0 0 5 700 4600
    pub steps_with_7 : (ruling (answering 7 9) (disputes 4599 7 (answering 7 9))).answer.steps ≡ v
    pub kept_with_7 : left (disputes 4599 7) (answering 7 9) ≡ answering 7 9
    pub disputes_with_9 : by (disputes 4599 9) (answering 7 9) ≡ row 16 0 0 5 700 4600
    pub disputes_with_8 : by (disputes 4599 8) (answering 7 9) ≡ row 0 0 700 6 0 0
    pub answers_with_7 : by (closes 7) (left (merchant_closes 7) (example 3 d x)) ≡ row 0 0 300 5 700 4600
    pub disputes_with_0 : by (disputes 4599 0) (left (closes 0) (example 3 d x)) ≡ row 16 0 0 5 700 4600
    pub disputes_with_free_0 : by (disputes 4599 0) (left (closes 9) (example 3 d x)) ≡ row 0 0 700 6 0 0
    pub steps_of_FF : step_count (replicate 32 255) ≡ 510
    pub steps_of_00 : step_count (replicate 32 0) ≡ 8415

  -- A book with this list of dates, whose clock shows this time.
  abbrev pub dated : List ℕ → ℕ → Context
  dated dates t = record { id = id; clock = seconds t; setup = setup_of (under (settings default fee true) dates id) }

  -- The channel after a closing of either side at this time: the empty list, and one with 1970-01-05, a Monday.
  abbrev pub merchant_left : List ℕ → ℕ → Channel
  merchant_left dates t = left (merchant_close (dated dates t) (good v 7)) (example 3 d x)

  abbrev pub customer_left : List ℕ → ℕ → Channel
  customer_left dates t = left (customer_close (dated dates t) lock 700 300 (good v 9) (good w q)) (example 3 d x)

  -- The deadline is an hour after the closing: it stays in the last second of Friday, and else is moved to Monday, or to Tuesday.
  pub record DayFigures : Type 0 where
    pub friday : (read_channel (merchant_left [] 169199)).deadline.0 ≡ 172799
    pub saturday : (read_channel (merchant_left [] 169200)).deadline.0 ≡ 345600
    pub listed_monday : (read_channel (merchant_left (19700105 ∷ []) 169200)).deadline.0 ≡ 432000
    pub customer_friday : (read_channel (customer_left [] 169199)).deadline.0 ≡ 172799
    pub customer_saturday : (read_channel (customer_left [] 169200)).deadline.0 ≡ 345600
    pub answers_at_345599 : by (customer_close (dated [] 345599) lock 700 300 (good v 9) (good w q)) (merchant_left [] 169200) ≡ row 0 0 300 5 700 349199
    pub answers_at_345600 : by (customer_close (dated [] 345600) lock 700 300 (good v 9) (good w q)) (merchant_left [] 169200) ≡ row 9 0 0 4 1000 345600
    pub disputes_at_345599 : by (dispute (dated [] 345599) lock (good v 8)) (customer_left [] 169200) ≡ row 0 0 700 6 0 0
    pub disputes_at_345600 : by (dispute (dated [] 345600) lock (good v 8)) (customer_left [] 169200) ≡ row 9 0 0 5 700 345600
    pub settles_at_345599 : by (settle (dated [] 345599)) (customer_left [] 169200) ≡ row 9 0 0 5 700 345600
    pub settles_at_345600 : by (settle (dated [] 345600)) (customer_left [] 169200) ≡ row 0 700 0 6 0 0

  -- A book opened plainly in which channels 3 and 5 are these.
  abbrev pub beside : Channel → Channel → Book
  beside third fifth = with_channel (with_channel (fresh (plainly id)) 3 third) 5 fifth

  -- The earlier deadline, then the larger sum, then the lower number. A merchant's closing holds T, whatever is kept in it; a customer's its kept c.
  pub record DueFigures : Type 0 where
    pub larger : due (beside (example 5 4600 700) (example 5 4600 900)) ≡ number 5
    pub equal : due (beside (example 5 4600 900) (example 5 4600 900)) ≡ number 3
    pub earlier : due (beside (example 5 4599 700) (example 5 4600 900)) ≡ number 3
    pub later : due (beside (example 5 4600 900) (example 5 4599 700)) ≡ number 5
    pub nothing : due (beside (example 5 4600 0) (example 5 4600 1)) ≡ number 5
    pub both_nothing : due (beside (example 5 4600 0) (example 5 4600 0)) ≡ number 3
    pub total : due (beside (example 5 4600 999) (example 4 4600 x)) ≡ number 5
    pub whole : due (beside (example 5 4600 1000) (example 4 4600 x)) ≡ number 3
    pub open_account : due (beside (example 5 4600 0) (example 3 d x)) ≡ number 3

-- What an opening answers that is given a list: the fee is told before a date, and a date before the order.
pub record OpeningFigures (lent : Book) (id : List ℕ) : Type 0 where
  pub dear : length id ≡ 16 → (opening lent (under (settings 3600 1001 true) (20260230 ∷ []) id)).refusal ≡ 20
  pub no_date : length id ≡ 16 → (opening lent (under (settings 3600 1000 true) (20260502 ∷ 20260501 ∷ 20260230 ∷ []) id)).refusal ≡ 21
  pub falling : length id ≡ 16 → (opening lent (under (settings 3600 1000 true) (20260502 ∷ 20260501 ∷ []) id)).refusal ≡ 22
  pub no_list : length id ≡ 16 → (opening lent (under (settings 3600 1000 false) (20260230 ∷ []) id)).refusal ≡ 0
  pub days : take 3 (fresh (under (settings 3600 1000 true) (20261225 ∷ 20261228 ∷ []) id)).setup.days ≡ 20812 ∷ 20815 ∷ 0 ∷ []
  pub count : (fresh (under (settings 3600 1000 true) (20261225 ∷ 20261228 ∷ []) id)).setup.count ≡ 2
  pub flag : (fresh (under (settings 3600 1000 true) [] id)).setup.dated ≡ 1
  pub no_flag : (fresh (under (settings 3600 1000 false) [] id)).setup.dated ≡ 0

-- The fee of 300 and 700 by 250 ten-thousandths, of both at once, and the bound between them; the smallest amount with a fee of a cent; the
-- largest amount at the highest fee. Openings with the id of any length 16: a wrong default is told before a wrong fee.
pub record FeeFigures (lent : Book) (id : List ℕ) : Type 0 where
  pub of_300 : fee_of 250 300 ≡ 7
  pub of_700 : fee_of 250 700 ≡ 17
  pub of_1000 : fee_of 250 1000 ≡ 25
  pub bound_least : 7 + 17 ≤ 25
  pub bound_most : 25 ≤ 7 + 17 + 1
  pub of_9999 : fee_of 1 9999 ≡ 0
  pub of_10000 : fee_of 1 10000 ≡ 1
  pub of_9 : fee_of 1000 9 ≡ 0
  pub of_10 : fee_of 1000 10 ≡ 1
  pub of_most : fee_of 1000 (2 ^ 63 - 1) ≡ 922337203685477580
  pub of_none : (amount : ℕ) → fee_of 0 amount ≡ 0
  pub default_first : length id ≡ 16 → (opening lent (under (settings 3599 1001 false) [] id)).refusal ≡ 14
  pub dear : length id ≡ 16 → (opening lent (under (settings 3600 1001 false) [] id)).refusal ≡ 20
  pub dearest : length id ≡ 16 → opening lent (under (settings 3600 1000 false) [] id) ≡ record { book = fresh (under (settings 3600 1000 false) [] id); refusal = 0 }
