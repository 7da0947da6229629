-- The figures by computing, and the two claims applied, so that a weaker one would be seen.
use mathlib.Core.Path.{◌≡◌, refl}
use mathlib.Core.List.{[], ◌∷◌}
use Prim.Native.Nat.{◌+◌}
use native.Mathlib.Omega.{arith}
use Rattle.calendar.specs.Calendar.{date, leap, month_days, before, since, day_number}
use Rattle.calendar.specs.Days.{weekend, listed, above, rising, skip, past, next_open, banked}
use Rattle.calendar.specs.Figures.{DateFigures, DeadlineFigures, ListFigures, friday, weeks, Said}
use Rattle.calendar.proofs.Counting.{calendar_means}
use Rattle.calendar.proofs.NextDay.{banked_means}

date_figures : DateFigures
unfolding leap month_days before since day_number
date_figures = record {
  thursday = refl;
  february_2000 = refl;
  february_2028 = refl;
  february_2100 = refl;
  christmas = refl;
  april_31 = refl;
  no_month = refl;
  no_day = refl;
  too_early = refl;
  last = refl;
  too_late = refl;
  nothing = refl;
}

deadline_figures : DeadlineFigures
unfolding weekend listed skip past next_open banked
deadline_figures = record {
  friday_stays = refl;
  saturday = refl;
  sunday = refl;
  monday_stays = refl;
  listed_friday = refl;
  listed_monday = refl;
  listed_weeks = refl;
  beside_listed = refl;
  past_every_clock = refl;
}

list_figures : ListFigures
unfolding leap month_days before since day_number above rising
list_figures = record { none = refl; most = refl; more = refl; more_exist = refl; seventieth = refl; equal = refl; falling = refl }

said : Said
unfolding leap month_days weekend listed above rising skip past next_open
said =
    let next = calendar_means.next in
    let moved = (banked_means weeks refl friday).1 refl in
    let tuesday : moved.0 ≡ 20823 = omega (arith, moved.1, deadline_figures.listed_weeks) in
    record {
      same_month = next (date 2026 12 25) refl;
      common_year = next (date 2100 2 28) refl;
      leap_year = next (date 2000 2 28) refl;
      new_year = next (date 2399 12 31) refl;
      saturday = calendar_means.week 20812;
      sunday = calendar_means.week 20813;
      later = calendar_means.order 20261231 20270101 refl refl (omega arith);
      stays = (banked_means (20811 ∷ 20813 ∷ []) refl (friday + 36000)).0 refl;
      opens = rw tuesday at moved.2.opens;
      between = moved.2.between 20821 (omega arith) (omega (arith, tuesday));
    }
