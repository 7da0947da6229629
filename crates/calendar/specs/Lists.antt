-- Document 02, No. 8: the dates that an opening is given, and what a book keeps of them.
use Rattle.std.specs.Prelude.{Bool, cond, ◌&&◌, List, [], ◌++◌, map, ℕ, ◌-◌, length, take, replicate, leb, ltb}
use Rattle.wire.specs.Parts.{all}
use Rattle.calendar.specs.Calendar.{numbered, is_date, day_number}
use Rattle.calendar.specs.Days.{rising}

-- The longest list.
abbrev pub most : ℕ
most = 64

-- What an opening is given: nothing is looked at where it is no list.
abbrev pub given : Bool → List ℕ → List ℕ
given dated l = cond dated l []

-- Check 21: every date exists. Check 22: they are few enough, and rise.
abbrev pub all_dates : List ℕ → Bool
all_dates l = all is_date l

abbrev pub in_order : List ℕ → Bool
in_order l = leb (length l) most && rising (map day_number l)

-- The day numbers that a book keeps, and zeros behind them.
abbrev pub kept_days : List ℕ → List ℕ
kept_days l = map day_number l ++ replicate (most - length l) 0

-- The first k of a sound book's days are day numbers, and rise.
abbrev pub sound_days : ℕ → List ℕ → Bool
sound_days k l = leb k most && rising (take k l) && all (λ d. ltb d numbered) (take k l)
