-- The count of days: tables of months and a formula of years, each tested by computing, and the claim of the calendar.
use mathlib.Core.Path.{◌≡◌, refl, sym, ap, ◌∙◌}
use mathlib.Core.Bool.{Bool, true, false, cond, ◌&&◌}
use mathlib.Core.List.{List, [], ◌∷◌}
use Prim.Native.Nat.{ℕ, zero, suc, ◌+◌, ◌*◌, ◌-◌, ◌/◌, ◌%◌, ◌≤◌, ◌<◌}
use native.Mathlib.Decide.{le_ind}
use native.Mathlib.Omega.{arith}
use lib.Dec.{eqb, leb, ltb}
use lib.ListN.{get_or}
use borrow.Author.Tests.{eqb-true, eqb-false, leb-true, ltb-true, ltb-false}
use Rattle.wire.proofs.Laws.{and_both}
use Rattle.calendar.specs.Calendar.{Date, date, leap, month_days, before, year_days, since, exists, day_of, numbered, day_number, is_date, date_of, weekday, CalendarMeans}

-- ---- a test of every number below n

abbrev below : (ℕ → Bool) → ℕ → Bool
below p zero = true
below p (suc n) = p n && below p n

below_at : (p : ℕ → Bool) (n k : ℕ) → below p n ≡ true → k < n → p k ≡ true
below_at p zero k e h = let z : ⊥ = omega arith in absurd z
below_at p (suc n) k e h = let t = and_both (p n) (below p n) e in go t.0 (below_at p n k t.1) (eqb k n) refl
  where
    go : p n ≡ true → (k < n → p k ≡ true) → (x : Bool) → eqb k n ≡ x → p k ≡ true
    go last rest true q = rw (eqb-true k n q) last
    go last rest false q = let m = eqb-false k n q in rest (omega arith)

-- ---- years

-- The days of k years from 1970 on, with a leap day every fourth year but for the hundredth ones that are no four-hundredth.
abbrev pub spanned : ℕ → ℕ → ℕ
spanned k last = 365 * k + (last / 4 + last / 400 - last / 100 - 477)

abbrev good_year : ℕ → Bool
good_year k = eqb (since k) (spanned k (1969 + k)) && leb (since (suc k)) numbered

all_years : below good_year 430 ≡ true
unfolding since leap
all_years = refl

pub years : (k : ℕ) → k < 430 → (since k ≡ spanned k (1969 + k)) × (since (suc k) ≤ numbered)
years k h =
    let t = and_both (eqb (since k) (spanned k (1969 + k))) (leb (since (suc k)) numbered) (below_at good_year 430 k all_years h) in
    (eqb-true _ _ t.0, leb-true _ _ t.1)

-- ---- months

-- As the code has them: those before each, in a year that is no leap year.
abbrev pub befores : List ℕ
befores = 0 ∷ 0 ∷ 31 ∷ 59 ∷ 90 ∷ 120 ∷ 151 ∷ 181 ∷ 212 ∷ 243 ∷ 273 ∷ 304 ∷ 334 ∷ []

abbrev good_month : Bool → ℕ → Bool
good_month long m =
    eqb (before long m) (cond (ltb 2 m && long) (get_or befores m 0 + 1) (get_or befores m 0))
    && leb (before long (suc m)) (year_days long) && leb (get_or befores m 0) 334

all_months : (long : Bool) → below (good_month long) 13 ≡ true
unfolding before month_days
all_months true = refl
all_months false = refl

pub record Months (long : Bool) (m : ℕ) : Type 0 where
  pub earlier : before long m ≡ cond (ltb 2 m && long) (get_or befores m 0 + 1) (get_or befores m 0)
  pub within : before long m + month_days long m ≤ year_days long
  pub few : get_or befores m 0 ≤ 334

pub months : (long : Bool) (m : ℕ) → m ≤ 12 → Months long m
unfolding before
months long m h =
    let f = and_both _ _ (below_at (good_month long) 13 m (all_months long) (omega arith)) in
    let t = and_both _ _ f.0 in
    record { earlier = eqb-true _ _ t.0; within = leb-true _ _ t.1; few = leb-true _ _ f.1 }

-- As the code takes them: l is its answer of a leap year.
module _ (long l : Bool) (e : l ≡ long) (m : ℕ) (h : m ≤ 12) where
  pub after_leap_day : (ltb 2 m && l) ≡ true → get_or befores m 0 + 1 ≡ before long m
  after_leap_day t = rw ((months long m h).earlier, ← e, t)

  pub no_leap_day : (ltb 2 m && l) ≡ false → get_or befores m 0 ≡ before long m
  no_leap_day t = rw ((months long m h).earlier, ← e, t)

whole_year : (long : Bool) → before long 12 + month_days long 12 ≡ year_days long
unfolding before month_days
whole_year true = refl
whole_year false = refl

-- ---- dates

pub record Exists (t : Date) : Type 0 where
  pub year_low : 1970 ≤ t.year
  pub year_high : t.year ≤ 2399
  pub month_low : 1 ≤ t.month
  pub month_high : t.month ≤ 12
  pub day_low : 1 ≤ t.day
  pub day_high : t.day ≤ month_days (leap t.year) t.month

pub exists_parts : (t : Date) → exists t ≡ true → Exists t
exists_parts t e =
    let a = and_both _ _ e in
    let b = and_both _ _ a.0 in
    let c = and_both _ _ b.0 in
    let d = and_both _ _ c.0 in
    let y = and_both _ _ d.0 in
    record {
      year_low = leb-true _ _ y.0;
      year_high = leb-true _ _ y.1;
      month_low = leb-true _ _ d.1;
      month_high = leb-true _ _ c.1;
      day_low = leb-true _ _ b.1;
      day_high = leb-true _ _ a.1;
    }

-- Every date that exists has a number below those of 2400.
pub date_fits : (t : Date) → Exists t → day_of t < numbered
unfolding since
date_fits t e =
    let k = t.year - 1970 in
    let y : 1970 + k ≡ t.year = omega (arith, e.year_low) in
    let m = (months (leap t.year) t.month e.month_high).within in
    let n = (years k (omega (arith, e.year_high))).1 in
    omega (arith, e.day_low, e.day_high, m, rw y at n)

pub number_fits : (x : ℕ) → day_number x < numbered
unfolding day_number
number_fits x = go (is_date x) refl
  where
    go : (y : Bool) → is_date x ≡ y → cond y (day_of (date_of x)) 0 < numbered
    go true e = date_fits (date_of x) (exists_parts (date_of x) e)
    go false e = omega arith

pub number_yes : (x : ℕ) → is_date x ≡ true → day_of (date_of x) ≡ day_number x
unfolding day_number
number_yes x h = rw h

-- The number of a date's parts.
pub number_of : (d : Date) (x : ℕ) → d ≡ date_of x → exists d ≡ true → day_of d ≡ day_number x
number_of d x e h = ap day_of e ∙ number_yes x (sym (ap exists e) ∙ h)

pub number_no : (x : ℕ) → is_date x ≡ false → 0 ≡ day_number x
unfolding day_number
number_no x h = rw h

-- ---- the claim

-- The day after: in its month, in the next month, in the next year.
module _ (t : Date) (e : Exists t) where
  in_month : day_of (date t.year t.month (suc t.day)) ≡ suc (day_of t)
  in_month = omega (arith, e.day_low)

  next_month : t.day ≡ month_days (leap t.year) t.month → day_of (date t.year (suc t.month) 1) ≡ suc (day_of t)
  unfolding before
  next_month d = omega (arith, d, e.day_low)

  next_year : t.month ≡ 12 → t.day ≡ month_days (leap t.year) 12 → day_of (date (suc t.year) 1 1) ≡ suc (day_of t)
  unfolding since before month_days
  next_year m d =
      let k = t.year - 1970 in
      let y : 1970 + k ≡ t.year = omega (arith, e.year_low) in
      let s : suc t.year - 1970 ≡ suc k = omega (arith, e.year_low) in
      rw (s, y, m) (omega (arith, d, e.day_low, whole_year (leap t.year)))

-- A date lies before the next month, and before the next year.
in_its_month : (t : Date) → Exists t → day_of t < since (t.year - 1970) + before (leap t.year) (suc t.month)
unfolding before
in_its_month t e = omega (arith, e.day_low, e.day_high)

in_its_year : (t : Date) → Exists t → day_of t < since (suc (t.year - 1970))
unfolding since
in_its_year t e =
    let k = t.year - 1970 in
    let y : 1970 + k ≡ t.year = omega (arith, e.year_low) in
    let m = (months (leap t.year) t.month e.month_high).within in
    rw y (omega (arith, e.day_low, e.day_high, m))

-- Years and months add up.
climbs : (f : ℕ → ℕ) → ((j : ℕ) → f j ≤ f (suc j)) → (i j : ℕ) → i ≤ j → f i ≤ f j
climbs f g i j h = le_ind (λ (k : ℕ). f i ≤ f k) (omega arith) (λ k _ r. omega (arith, r, g k)) j h

more_years : (k : ℕ) → since k ≤ since (suc k)
unfolding since
more_years k = omega arith

more_months : (long : Bool) (m : ℕ) → before long m ≤ before long (suc m)
unfolding before
more_months long m = omega arith

-- Of two dates the later one has the larger number.
module _ (t u : Date) (e : Exists t) (f : Exists u) where
  later_year : t.year < u.year → day_of t < day_of u
  later_year h =
      let k = t.year - 1970 in
      let s = climbs since more_years (suc k) (u.year - 1970) (omega (arith, e.year_low)) in
      omega (arith, in_its_year t e, s)

  later_month : t.year ≡ u.year → t.month < u.month → day_of t < day_of u
  later_month y h =
      let s = climbs (before (leap u.year)) (more_months (leap u.year)) (suc t.month) u.month h in
      rw y (omega (arith, rw y at (in_its_month t e), s))

  later_day : t.year ≡ u.year → t.month ≡ u.month → t.day < u.day → day_of t < day_of u
  later_day y m h = rw (y, m) (omega (arith, e.day_low, h))

in_turn : (x y : ℕ) → Exists (date_of x) → Exists (date_of y) → x < y → day_of (date_of x) < day_of (date_of y)
in_turn x y e f h = go (ltb (x / 10000) (y / 10000)) refl (ltb (x / 100 % 100) (y / 100 % 100)) refl
  where
    go : (a : Bool) → ltb (x / 10000) (y / 10000) ≡ a → (b : Bool) → ltb (x / 100 % 100) (y / 100 % 100) ≡ b → day_of (date_of x) < day_of (date_of y)
    go true p b q = later_year _ _ e f (ltb-true (x / 10000) (y / 10000) p)
    go false p true q = let n = ltb-false (x / 10000) (y / 10000) p in later_month _ _ e f (omega (arith, n, h)) (ltb-true (x / 100 % 100) (y / 100 % 100) q)
    go false p false q =
        let n = ltb-false (x / 10000) (y / 10000) p in
        let m = ltb-false (x / 100 % 100) (y / 100 % 100) q in
        later_day _ _ e f (omega (arith, n, m, h)) (omega (arith, n, m, h)) (omega (arith, n, m, h))

next_weekday : (d : ℕ) → weekday (suc d) ≡ cond (eqb (weekday d) 6) 0 (suc (weekday d))
next_weekday d = go (eqb (weekday d) 6) refl
  where
    go : (x : Bool) → eqb (weekday d) 6 ≡ x → weekday (suc d) ≡ cond x 0 (suc (weekday d))
    go true q = let n = eqb-true (weekday d) 6 q in omega (arith, n)
    go false q = let n = eqb-false (weekday d) 6 q in omega (arith, n)

pub calendar_means : CalendarMeans
unfolding since before month_days
calendar_means = record {
  first = refl;
  next = λ t h. follows t (exists_parts t h) (ltb t.day (month_days (leap t.year) t.month)) refl (ltb t.month 12) refl;
  thursday = refl;
  week = next_weekday;
  order = λ x y p q h. rw (← number_yes x p, ← number_yes y q) (in_turn x y (exists_parts _ p) (exists_parts _ q) h);
}
  where
    follows : (t : Date) → Exists t → (x : Bool) → ltb t.day (month_days (leap t.year) t.month) ≡ x → (y : Bool) → ltb t.month 12 ≡ y
        → day_of (cond x (date t.year t.month (suc t.day)) (cond y (date t.year (suc t.month) 1) (date (suc t.year) 1 1))) ≡ suc (day_of t)
    follows t e true p y q = in_month t e
    follows t e false p true q = let h = ltb-false t.day (month_days (leap t.year) t.month) p in next_month t e (omega (arith, h, e.day_high))
    follows t e false p false q =
        let n = month_days (leap t.year) t.month in
        let h = ltb-false t.day n p in
        let m : t.month ≡ 12 = omega (arith, ltb-false t.month 12 q, e.month_high) in
        let d : t.day ≡ n = omega (arith, h, e.day_high) in
        next_year t e m (rw m at d)
