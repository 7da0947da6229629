-- Document 02, No. 8: figures of dates, of moved deadlines and of lists.
use Rattle.std.specs.Prelude.{◌≡◌, true, false, List, [], ◌∷◌, ◌++◌, ℕ, zero, suc, ◌+◌, ◌-◌, ◌*◌, ◌^◌, ◌<◌}
use Rattle.calendar.specs.Calendar.{date, day_of, is_date, day_number, weekday}
use Rattle.calendar.specs.Days.{shut, banked}
use Rattle.calendar.specs.Lists.{all_dates, in_order}

pub record DateFigures : Type 0 where
  pub thursday : weekday (day_number 19700101) ≡ 4
  pub february_2000 : day_number 20000229 ≡ 11016
  pub february_2028 : is_date 20280229 ≡ true
  pub february_2100 : is_date 21000229 ≡ false
  pub christmas : day_number 20261225 ≡ 20812
  pub april_31 : is_date 20260431 ≡ false
  pub no_month : is_date 20261301 ≡ false
  pub no_day : is_date 20260100 ≡ false
  pub too_early : is_date 19691231 ≡ false
  pub last : day_number 23991231 ≡ 157053
  pub too_late : is_date 24000101 ≡ false
  pub nothing : is_date 0 ≡ false

-- 2026-12-25 00:00:00, a Friday.
abbrev pub friday : ℕ
friday = 1798156800

-- From 2026-12-25 on: that Friday, Monday to Friday, and the Monday after.
abbrev pub weeks : List ℕ
weeks = 20812 ∷ 20815 ∷ 20816 ∷ 20817 ∷ 20818 ∷ 20819 ∷ 20822 ∷ []

pub record DeadlineFigures : Type 0 where
  pub friday_stays : banked [] 172799 ≡ 172799
  pub saturday : banked [] 172800 ≡ 345600
  pub sunday : banked [] 345599 ≡ 345600
  pub monday_stays : banked [] 345600 ≡ 345600
  pub listed_friday : banked (20812 ∷ []) (friday + 36000) ≡ 1798416000
  pub listed_monday : banked (20812 ∷ 20815 ∷ []) (friday + 36000) ≡ 1798502400
  pub listed_weeks : banked weeks friday ≡ friday + 11 * 86400
  pub beside_listed : banked (20811 ∷ 20813 ∷ []) (friday + 36000) ≡ friday + 36000
  pub past_every_clock : banked [] (2 ^ 63 - 1 + 3600) ≡ 106751991167301 * 86400

-- The first of January of n years from 1970 + k on.
abbrev pub new_years : ℕ → ℕ → List ℕ
new_years k zero = []
new_years k (suc n) = (19700101 + 10000 * k) ∷ new_years (suc k) n

pub record ListFigures : Type 0 where
  pub none : in_order [] ≡ true
  pub most : in_order (new_years 0 64) ≡ true
  pub more : in_order (new_years 0 65) ≡ false
  pub more_exist : all_dates (new_years 0 65) ≡ true
  pub seventieth : all_dates (new_years 0 69 ++ 20260230 ∷ []) ≡ false
  pub equal : in_order (20260501 ∷ 20260501 ∷ []) ≡ false
  pub falling : in_order (20260502 ∷ 20260501 ∷ []) ≡ false

-- What the two claims say of the day after a date, in its month, in the next and in the next year, of the days after a Friday, of two dates, and
-- of a deadline on a Friday that is open and on one that is shut.
pub record Said : Type 0 where
  pub same_month : day_of (date 2026 12 26) ≡ suc (day_of (date 2026 12 25))
  pub common_year : day_of (date 2100 3 1) ≡ suc (day_of (date 2100 2 28))
  pub leap_year : day_of (date 2000 2 29) ≡ suc (day_of (date 2000 2 28))
  pub new_year : day_of (date 2400 1 1) ≡ suc (day_of (date 2399 12 31))
  pub saturday : weekday 20813 ≡ 6
  pub sunday : weekday 20814 ≡ 0
  pub later : day_number 20261231 < day_number 20270101
  pub stays : banked (20811 ∷ 20813 ∷ []) (friday + 36000) ≡ friday + 36000
  pub opens : shut weeks 20823 ≡ false
  pub between : shut weeks 20821 ≡ true
