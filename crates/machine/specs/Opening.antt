-- Document 01, "Book" and "Checks": the opening; document 02, No. 1, No. 7 and No. 8: the default delay, the fee and the shut dates that it may
-- give.
use Rattle.std.specs.Prelude.{false, cond, List, [], ◌∷◌, map, ℕ, length, replicate, eqb, leb}
use Rattle.calendar.specs.Calendar.{day_number}
use Rattle.calendar.specs.Days.{banked}
use Rattle.calendar.specs.Lists.{given, all_dates, in_order, kept_days}
use Rattle.machine.specs.Book.{cents, seconds, party, the_mark, ranged, highest, leaves}
use Rattle.machine.specs.Checks.{Check, test, clean, passed, judge}
use Rattle.machine.specs.declared.state.Channel.{Channel}
use Rattle.machine.specs.declared.state.Settings.{Settings}
use Rattle.machine.specs.declared.state.Setup.{Setup}
use Rattle.machine.specs.declared.state.Book.{Book}

-- What an opening makes of the lent book, and the refusal, or 0.
pub record Opened : Type 0 where
  pub book : Book
  pub refusal : ℕ

-- ---- what an opening is given

pub record Opening : Type 0 where
  pub id : List ℕ
  pub settings : Settings
  pub dates : List ℕ

abbrev pub under : Settings → List ℕ → List ℕ → Opening
under settings dates id = record { id = id; settings = settings; dates = dates }

-- Its list of dates: none where the settings say that there is no list.
abbrev pub dates_of : Opening → List ℕ
dates_of o = given o.settings.dated o.dates

-- The settings of the plain opening, and those that the desk opens new books with.
abbrev pub plain_settings : Settings
plain_settings = record { delay = 86400; fee = 0; dated = false }

abbrev pub desk_settings : Settings
desk_settings = record { delay = 172800; fee = 0; dated = false }

abbrev pub plainly : List ℕ → Opening
plainly id = under plain_settings [] id

-- The second t, or, where it is given a list, moved from a shut day to 00:00:00 of the next day that is not.
abbrev pub answerable_by : Opening → ℕ → ℕ
answerable_by o t = cond o.settings.dated (banked (map day_number o.dates) t) t

-- ---- its checks, in this order

abbrev pub opening_checks : Opening → List Check
opening_checks o =
    test 2 (eqb (length o.id) 16)
    ∷ test 14 (ranged o.settings.delay)
    ∷ test 20 (leb o.settings.fee highest)
    ∷ test 21 (all_dates (dates_of o))
    ∷ test 22 (in_order (dates_of o))
    ∷ []

-- ---- a fresh book: the id, what it keeps of the settings and of the dates, and status 0 and zeros in every channel

abbrev pub kept_by : Settings → List ℕ → ℕ → Setup
kept_by s days count = record { delay = s.delay; fee = s.fee; days = days; count = count; dated = cond s.dated 1 0 }

abbrev pub setup_of : Opening → Setup
setup_of o = kept_by o.settings (kept_days (dates_of o)) (length (dates_of o))

abbrev pub unused : Channel
unused = record {
  customer = party (replicate 56 0) 0;
  merchant = party (replicate 56 0) 0;
  deadline = seconds 0;
  kept = cents 0;
  delay = 0;
  status = 0;
  lock = replicate 32 0;
  leaves = leaves 0 0;
}

abbrev pub fresh_book : List ℕ → Setup → Book
fresh_book id setup = record { mark = the_mark; id = id; setup = setup; clock = seconds 0; channels = replicate 64 unused }

unfoldable pub fresh : Opening → Book
fresh o = fresh_book o.id (setup_of o)

-- A refused opening keeps every value of the lent book.
unfoldable pub opening : Book → Opening → Opened
opening lent o =
    let j = judge clean (opening_checks o) in
    record { book = cond (passed j) (fresh o) lent; refusal = j.refusal }

-- A book to lend: zeros, and no mark.
abbrev pub blank_book : Book
blank_book = record { mark = 0; id = replicate 16 0; setup = record { delay = 0; fee = 0; days = replicate 64 0; count = 0; dated = 0 }; clock = seconds 0; channels = replicate 64 unused }
