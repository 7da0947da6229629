-- Document 01, "Commands" and checks 5 to 12: for each of 02 to 0A its checks on the channel, in the paper's order, what becomes of the
-- channel, and whom it pays. A rule takes what it reads of the book, the operands and the verdicts. Document 02, No. 1: a delay of 0; No. 2:
-- accounts that only the merchant funds; No. 5: a leaf counts once; No. 8: deadlines on banking days.
use Rattle.std.specs.Prelude.{Bool, cond, not, ◌&&◌, ◌||◌, List, [], ◌∷◌, ℕ, ◌+◌, take, eqb, leb, ltb}
use Rattle.wire.specs.Parts.{same}
use Rattle.calendar.specs.Days.{banked}
use Rattle.lms.specs.Layout.{typed_key}
use Rattle.machine.specs.Book.{cents, seconds, limit, ranged, total, leaves, remembered, closing}
use Rattle.machine.specs.Checks.{Check, test, signed, Verdict}
use Rattle.machine.specs.declared.units.Cents.{Cents}
use Rattle.machine.specs.declared.state.Party.{Party}
use Rattle.machine.specs.declared.state.Leaves.{Leaves}
use Rattle.machine.specs.declared.state.Channel.{Channel}
use Rattle.machine.specs.declared.state.Setup.{Setup}
use Rattle.machine.specs.declared.state.Context.{Context}

pub record Payment : Type 0 where
  pub customer : Cents
  pub merchant : Cents

-- To the customer and to the merchant.
abbrev pub pay : ℕ → ℕ → Payment
pay c b = record { customer = cents c; merchant = cents b }

-- What a command asks, the channel that it leaves, and what it pays.
pub record Plan : Type 0 where
  pub checks : List Check
  pub channel : Channel
  pub pays : Payment

-- ---- the channel with some values replaced: the others stay

abbrev pub moved : Channel → ℕ → ℕ → ℕ → List ℕ → Leaves → Channel
moved ch status deadline kept lock used = record {
  status = status;
  customer = ch.customer;
  merchant = ch.merchant;
  delay = ch.delay;
  deadline = seconds deadline;
  kept = cents kept;
  lock = lock;
  leaves = used;
}

abbrev pub become : ℕ → Channel → Channel
become status ch = moved ch status ch.deadline.0 ch.kept.0 ch.lock ch.leaves

-- ---- 02 establish

-- A delay of 0 stands for the default.
unfoldable pub delayed : ℕ → ℕ → ℕ
delayed default d = cond (eqb d 0) default d

-- Check 6: both keys carry types 6 and 4, and they differ.
unfoldable pub keyed : List ℕ → List ℕ → Bool
keyed customer merchant = typed_key customer && typed_key merchant && not (same customer merchant)

-- Check 7, on the operand.
abbrev pub delay_fits : ℕ → Bool
delay_fits d = eqb d 0 || ranged d

-- Check 8 of 02: the sum is 1 to 2^63 - 1, as whole numbers.
abbrev pub deposits_fit : ℕ → ℕ → Bool
deposits_fit c b = leb (c + b) limit && leb 1 (c + b)

-- Status 1, or 2 where D_c is 0. The keys, the deposits, the delay and the status are named: deadline, kept part, lock and
-- leaves stay.
abbrev pub established : ℕ → Party → Party → ℕ → Channel → Channel
established default customer merchant d ch = record {
  status = cond (eqb customer.deposit.0 0) 2 1;
  customer = customer;
  merchant = merchant;
  delay = delayed default d;
  deadline = ch.deadline;
  kept = ch.kept;
  lock = ch.lock;
  leaves = ch.leaves;
}

unfoldable pub establish : Context → Party → Party → ℕ → Channel → Plan
establish at customer merchant d ch = record {
  checks =
      test 5 (eqb ch.status 0)
      ∷ test 6 (keyed customer.key merchant.key)
      ∷ test 7 (delay_fits d)
      ∷ test 8 (deposits_fit customer.deposit.0 merchant.deposit.0)
      ∷ [];
  channel = established at.setup.delay customer merchant d ch;
  pays = pay 0 0;
}

-- ---- 03 customer funds: status 2, or 3 where D_b is 0. 04 merchant funds

unfoldable pub fund_customer : ℕ → Channel → Plan
fund_customer paid ch = record {
  checks =
      test 5 (eqb ch.status 1)
      ∷ test 8 (eqb paid ch.customer.deposit.0)
      ∷ [];
  channel = become (cond (eqb ch.merchant.deposit.0 0) 3 2) ch;
  pays = pay 0 0;
}

unfoldable pub fund_merchant : ℕ → Channel → Plan
fund_merchant paid ch = record {
  checks =
      test 5 (eqb ch.status 2)
      ∷ test 8 (eqb paid ch.merchant.deposit.0)
      ∷ [];
  channel = become 3 ch;
  pays = pay 0 0;
}

-- ---- 05 reclaim: pays the customer D_c

unfoldable pub reclaim : Verdict → Channel → Plan
reclaim signature ch = record {
  checks =
      test 5 (eqb ch.status 2)
      ∷ signed 12 signature
      ∷ [];
  channel = become 6 ch;
  pays = pay ch.customer.deposit.0 0;
}

-- ---- 06 mutual close: pays c and b

-- Check 8 of 06 and 07: c + b = T, as whole numbers.
abbrev pub shares_all : ℕ → ℕ → Channel → Bool
shares_all c b ch = eqb (c + b) (total ch)

unfoldable pub mutual_close : ℕ → ℕ → Verdict → Verdict → Channel → Plan
mutual_close c b by_merchant by_customer ch = record {
  checks =
      test 5 (eqb ch.status 3)
      ∷ test 8 (shares_all c b ch)
      ∷ signed 11 by_merchant
      ∷ signed 12 by_customer
      ∷ [];
  channel = become 6 ch;
  pays = pay c b;
}

-- ---- the deadline of a closing

-- The second t, or, in a book with a list of dates, where t lies on a shut day, 00:00:00 of the next day that is not.
unfoldable pub answerable_at : Setup → ℕ → ℕ
answerable_at s t = cond (eqb s.dated 0) t (banked (take s.count s.days) t)

-- The clock and the channel's delay, moved.
abbrev pub closes_at : Context → Channel → ℕ
closes_at at ch = answerable_at at.setup (at.clock.0 + ch.delay)

-- ---- 07 customer closes: pays the merchant b now, keeps c and the lock. From status 3 the deadline is not looked at

-- Its leaf is remembered beside that of the 08 that it answers; from status 3 there is none.
abbrev pub closing_leaves : ℕ → Channel → Leaves
closing_leaves q ch = leaves (cond (eqb ch.status 3) q ch.leaves.first) q

unfoldable pub customer_close : Context → List ℕ → ℕ → ℕ → Verdict → Verdict → Channel → Plan
customer_close at lock c b by_merchant by_customer ch = record {
  checks =
      test 5 (eqb ch.status 3 || eqb ch.status 4)
      ∷ test 8 (shares_all c b ch)
      ∷ test 9 (eqb ch.status 3 || ltb at.clock.0 ch.deadline.0)
      ∷ signed 11 by_merchant
      ∷ signed 12 by_customer
      ∷ [];
  channel = moved ch 5 (closes_at at ch) c lock (closing_leaves by_merchant.leaf ch);
  pays = pay 0 b;
}

-- ---- 08 merchant closes

unfoldable pub merchant_close : Context → Verdict → Channel → Plan
merchant_close at by_merchant ch = record {
  checks =
      test 5 (eqb ch.status 3)
      ∷ signed 11 by_merchant
      ∷ [];
  channel = moved ch 4 (closes_at at ch) ch.kept.0 ch.lock (leaves by_merchant.leaf by_merchant.leaf);
  pays = pay 0 0;
}

-- ---- 09 dispute: pays the merchant the kept c

unfoldable pub dispute : Context → List ℕ → Verdict → Channel → Plan
dispute at hashed by_merchant ch = record {
  checks =
      test 5 (eqb ch.status 5)
      ∷ test 9 (ltb at.clock.0 ch.deadline.0)
      ∷ test 10 (same hashed ch.lock)
      ∷ signed 11 by_merchant
      ∷ test 16 (not (remembered by_merchant.leaf ch))
      ∷ [];
  channel = become 6 ch;
  pays = pay 0 ch.kept.0;
}

-- ---- 0A settle: from 4 pays the merchant T, from 5 pays the customer the kept c

unfoldable pub settle : Context → Channel → Plan
settle at ch = record {
  checks =
      test 5 (closing ch)
      ∷ test 9 (leb ch.deadline.0 at.clock.0)
      ∷ [];
  channel = become 6 ch;
  pays = cond (eqb ch.status 4) (pay 0 (total ch)) (pay ch.kept.0 0);
}
