-- Document 02, No. 8: Gregorian dates, and the number of a day, which is 0 for 1970-01-01.
use Rattle.std.specs.Prelude.{◌≡◌, Bool, true, cond, not, ◌&&◌, ◌||◌, [], ◌∷◌, ℕ, zero, suc, ◌+◌, ◌-◌, ◌/◌, ◌%◌, ◌<◌, get_or, eqb, leb, ltb}

pub record Date : Type 0 where
  pub year : ℕ
  pub month : ℕ
  pub day : ℕ

abbrev pub date : ℕ → ℕ → ℕ → Date
date y m d = record { year = y; month = m; day = d }

-- ---- years and months

-- Every fourth year, but of the hundredth ones every fourth.
unfoldable pub leap : ℕ → Bool
leap y = eqb (y % 4) 0 && (not (eqb (y % 100) 0) || eqb (y % 400) 0)

-- The days of month m, of a leap year or of another.
unfoldable pub month_days : Bool → ℕ → ℕ
month_days long m = get_or (0 ∷ 31 ∷ cond long 29 28 ∷ 31 ∷ 30 ∷ 31 ∷ 30 ∷ 31 ∷ 31 ∷ 30 ∷ 31 ∷ 30 ∷ 31 ∷ []) m 0

-- Those of the months before m.
unfoldable pub before : Bool → ℕ → ℕ
before long zero = 0
before long (suc m) = before long m + month_days long m

abbrev pub year_days : Bool → ℕ
year_days long = cond long 366 365

-- The days of k years from 1970 on.
unfoldable pub since : ℕ → ℕ
since zero = 0
since (suc k) = since k + year_days (leap (1970 + k))

-- ---- dates

abbrev pub exists : Date → Bool
exists t =
    leb 1970 t.year && leb t.year 2399 && leb 1 t.month && leb t.month 12
    && leb 1 t.day && leb t.day (month_days (leap t.year) t.month)

abbrev pub day_of : Date → ℕ
day_of t = since (t.year - 1970) + before (leap t.year) t.month + (t.day - 1)

-- The days from 1970-01-01 to 2399-12-31.
abbrev pub numbered : ℕ
numbered = 157054

-- A date as one number: year × 10,000 + month × 100 + day.
abbrev pub date_of : ℕ → Date
date_of x = date (x / 10000) (x / 100 % 100) (x % 100)

abbrev pub is_date : ℕ → Bool
is_date x = exists (date_of x)

-- The number of its day; 0 where there is no such date.
unfoldable pub day_number : ℕ → ℕ
day_number x = cond (is_date x) (day_of (date_of x)) 0

-- 0 for a Sunday to 6 for a Saturday.
abbrev pub weekday : ℕ → ℕ
weekday d = (d + 4) % 7

-- ---- the claim

-- The day after, by the lengths of months and years.
abbrev pub following : Date → Date
following t =
    cond (ltb t.day (month_days (leap t.year) t.month)) (date t.year t.month (suc t.day))
    (cond (ltb t.month 12) (date t.year (suc t.month) 1) (date (suc t.year) 1 1))

-- Day 0 is 1970-01-01, a Thursday; the day after a date has the next number, and the next day of the week; of two dates the later one has the
-- larger number.
pub record CalendarMeans : Type 0 where
  pub first : day_of (date 1970 1 1) ≡ 0
  pub next : (t : Date) → exists t ≡ true → day_of (following t) ≡ suc (day_of t)
  pub thursday : weekday 0 ≡ 4
  pub week : (d : ℕ) → weekday (suc d) ≡ cond (eqb (weekday d) 6) 0 (suc (weekday d))
  pub order : (x y : ℕ) → is_date x ≡ true → is_date y ≡ true → x < y → day_number x < day_number y
