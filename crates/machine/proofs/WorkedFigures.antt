-- The starred figures, and those of document 02, No. 2, No. 5, No. 7, No. 8 and No. 9: the rules by computing, the chain steps by the law of `lms`.
use mathlib.Core.Path.{refl}
use mathlib.Core.List.{List}
use Prim.Native.Nat.{ℕ}
use native.Mathlib.Nat.{mul-zero}
use native.Mathlib.Omega.{arith}
use borrow.Author.Tests.{eq-eqb}
use lib.ListN.{replicate}
use Rattle.lms.specs.OneTime.{deficit}
use Rattle.lms.proofs.StepLaw.{step_law}
use Rattle.calendar.specs.Calendar.{leap, month_days, before, since, day_number}
use Rattle.calendar.specs.Days.{weekend, listed, above, rising, skip, past, next_open, banked}
use Rattle.machine.specs.Book.{total, held, sound_channel, sound, read_channel}
use Rattle.machine.specs.Checks.{ask}
use Rattle.machine.specs.Rules.{answerable_at, establish, fund_customer, fund_merchant, reclaim, mutual_close, customer_close, merchant_close, dispute, settle}
use Rattle.machine.specs.Machine.{answer, concluded, ruling}
use Rattle.machine.specs.Opening.{fresh, opening}
use Rattle.machine.specs.Due.{sooner, soonest, due}
use Rattle.machine.specs.Figures.{Figures, DayFigures, DueFigures, OpeningFigures, FeeFigures}
use Rattle.machine.specs.declared.state.Leaves.{Leaves}
use Rattle.machine.specs.declared.state.Book.{Book}
use Rattle.wire.proofs.Laws.{same_refl}
use Rattle.machine.proofs.Fees.{fee_bound}

pub figures : (key other lock id : List ℕ) (d x v w q default fee : ℕ) (used : Leaves) → Figures key other lock id d x v w q default fee used
unfolding deficit total held read_channel ask answerable_at establish fund_customer fund_merchant reclaim mutual_close customer_close merchant_close dispute settle answer concluded ruling
figures key other lock id d x v w q default fee used = record {
  funds_900 = refl;
  funds_899 = refl;
  funds_100 = refl;
  agrees_600 = refl;
  agrees_601 = refl;
  wraps = refl;
  closes_at_1000 = refl;
  disputes_at_4599 = λ free. rw (same_refl lock, free);
  disputes_at_4600 = refl;
  settles_at_4599 = refl;
  settles_at_4600 = refl;
  credits_100 = λ fit. rw fit;
  credits_reclaimed = refl;
  credits_funded = refl;
  credits_customer = refl;
  credits_nothing = λ fit. rw fit;
  credits_most = λ fit. rw fit;
  credits_more = λ fit. rw fit;
  sums_to_more = λ fit. rw fit;
  customer_alone = λ fit. rw fit;
  disputes_with_7 = rw (same_refl lock);
  steps_with_7 = rw (same_refl lock) (omega arith);
  kept_with_7 = rw (same_refl lock);
  disputes_with_9 = rw (same_refl lock);
  disputes_with_8 = rw (same_refl lock);
  answers_with_7 = refl;
  disputes_with_0 = rw (same_refl lock);
  disputes_with_free_0 = rw (same_refl lock);
  steps_of_FF = step_law.law (replicate 32 255) refl;
  steps_of_00 = step_law.law (replicate 32 0) refl;
}

day_figures : (key other lock id : List ℕ) (d x v w q default fee : ℕ) (used : Leaves) → DayFigures key other lock id d x v w q default fee used
unfolding total held read_channel ask leap month_days before since day_number weekend listed skip past next_open banked answerable_at merchant_close customer_close dispute settle answer concluded ruling
day_figures key other lock id d x v w q default fee used = record {
  friday = refl;
  saturday = refl;
  listed_monday = refl;
  customer_friday = refl;
  customer_saturday = refl;
  answers_at_345599 = refl;
  answers_at_345600 = refl;
  disputes_at_345599 = rw (same_refl lock);
  disputes_at_345600 = refl;
  settles_at_345599 = refl;
  settles_at_345600 = refl;
}

due_figures : (key other lock id : List ℕ) (d x v w q default fee : ℕ) (used : Leaves) → DueFigures key other lock id d x v w q default fee used
unfolding total held sound_channel sound rising sooner soonest due fresh
due_figures key other lock id d x v w q default fee used = record {
  larger = refl;
  equal = refl;
  earlier = refl;
  later = refl;
  nothing = refl;
  both_nothing = refl;
  total = refl;
  whole = refl;
  open_account = refl;
}

opening_figures : (lent : Book) (id : List ℕ) → OpeningFigures lent id
unfolding ask leap month_days before since day_number above rising opening fresh
opening_figures lent id = record {
  dear = λ e. rw (eq-eqb _ _ e);
  no_date = λ e. rw (eq-eqb _ _ e);
  falling = λ e. rw (eq-eqb _ _ e);
  no_list = λ e. rw (eq-eqb _ _ e);
  days = refl;
  count = refl;
  flag = refl;
  no_flag = refl;
}

pub fee_figures : (lent : Book) (id : List ℕ) → FeeFigures lent id
unfolding ask opening fresh rising
fee_figures lent id = record {
  of_300 = refl;
  of_700 = refl;
  of_1000 = refl;
  bound_least = (fee_bound 250 300 700).least;
  bound_most = (fee_bound 250 300 700).most;
  of_9999 = refl;
  of_10000 = refl;
  of_9 = refl;
  of_10 = refl;
  of_most = refl;
  of_none = λ amount. rw (mul-zero amount);
  default_first = λ e. rw (eq-eqb _ _ e);
  dear = λ e. rw (eq-eqb _ _ e);
  dearest = λ e. rw (eq-eqb _ _ e);
}
