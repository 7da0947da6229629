-- Document 01, "Book": T, held, soundness, readings; document 02, No. 1, No. 7 and No. 8: the default, the fee and the dates that a sound book
-- keeps in their limits; No. 5: the leaves that a channel remembers.
use Rattle.std.specs.Prelude.{Bool, cond, not, ◌&&◌, ◌||◌, List, [], ℕ, ◌+◌, ◌-◌, ◌^◌, get_or, set, replicate, eqb, leb, ltb}
use Rattle.wire.specs.Parts.{all}
use Rattle.calendar.specs.Lists.{sound_days}
use Rattle.machine.specs.declared.units.Cents.{Cents}
use Rattle.machine.specs.declared.units.Seconds.{Seconds}
use Rattle.machine.specs.declared.state.Party.{Party}
use Rattle.machine.specs.declared.state.Leaves.{Leaves}
use Rattle.machine.specs.declared.state.Channel.{Channel}
use Rattle.machine.specs.declared.state.Setup.{Setup}
use Rattle.machine.specs.declared.state.Book.{Book}
use Rattle.machine.specs.declared.answers.Reading.{Reading}

abbrev pub cents : ℕ → Cents
cents k = record { 0 = k }

abbrev pub seconds : ℕ → Seconds
seconds k = record { 0 = k }

abbrev pub party : List ℕ → ℕ → Party
party key deposit = record { key = key; deposit = cents deposit }

-- The largest clock and the largest total.
abbrev pub limit : ℕ
limit = 2 ^ 63 - 1

-- The shortest and the longest delay.
abbrev pub shortest : ℕ
shortest = 3600

abbrev pub longest : ℕ
longest = 2592000

abbrev pub ranged : ℕ → Bool
ranged d = leb shortest d && leb d longest

-- The highest fee, in ten-thousandths.
abbrev pub highest : ℕ
highest = 1000

-- The number of the book's layout: a landing that changes the book changes it.
abbrev pub layout : ℕ
layout = 6

-- The mark of a layout: "arbiter" in bytes, then its number.
abbrev pub mark_of : ℕ → ℕ
mark_of n = 0x6172_6269_7465_7200 + n

-- The mark that every opening writes.
abbrev pub the_mark : ℕ
the_mark = mark_of layout

-- ---- a channel

-- The two agreed deposits: D_c + D_b.
abbrev pub agreed : Channel → ℕ
agreed ch = ch.customer.deposit.0 + ch.merchant.deposit.0

-- T: 0 in status 0, else the total of the two agreed deposits.
unfoldable pub total : Channel → ℕ
total ch = cond (eqb ch.status 0) 0 (agreed ch)

-- Held: 0 in statuses 0, 1, 6; D_c in 2; T in 3 and 4; the closing's customer part in 5.
unfoldable pub held : Channel → ℕ
held ch =
    cond (eqb ch.status 2) ch.customer.deposit.0
    (cond (eqb ch.status 3 || eqb ch.status 4) (total ch)
    (cond (eqb ch.status 5) ch.kept.0 0))

-- The merchant's leaves of the accepted 08 and 07; where there is one of the two, its leaf twice.
abbrev pub leaves : ℕ → ℕ → Leaves
leaves first second = record { first = first; second = second }

abbrev pub remembered : ℕ → Channel → Bool
remembered q ch = eqb q ch.leaves.first || eqb q ch.leaves.second

-- Status 4, merchant closing, or 5, customer closing.
abbrev pub closing : Channel → Bool
closing ch = eqb ch.status 4 || eqb ch.status 5

-- ---- soundness

-- Past status 0: T, the delay and, in status 5, the kept c are in range.
abbrev pub sound_terms : Channel → Bool
sound_terms ch =
    leb (agreed ch) limit && ranged ch.delay && (not (eqb ch.status 5) || leb ch.kept.0 (agreed ch))

unfoldable pub sound_channel : Channel → Bool
sound_channel ch = leb ch.status 6 && (eqb ch.status 0 || sound_terms ch)

-- What the opening fixed is in its limits.
abbrev pub sound_setup : Setup → Bool
sound_setup s = ranged s.delay && leb s.fee highest && leb s.dated 1 && sound_days s.count s.days

unfoldable pub sound : Book → Bool
sound b = eqb b.mark the_mark && leb b.clock.0 limit && sound_setup b.setup && all sound_channel b.channels

-- ---- one channel of a book, and the book with a part replaced

-- What stands past the end of the channels.
abbrev pub no_channel : Channel
no_channel = record {
  customer = party [] 0;
  merchant = party [] 0;
  deadline = seconds 0;
  kept = cents 0;
  delay = 0;
  status = 0;
  lock = [];
  leaves = leaves 0 0;
}

abbrev pub channel : Book → ℕ → Channel
channel b n = get_or b.channels n no_channel

abbrev pub with_channel : Book → ℕ → Channel → Book
with_channel b n ch = record { mark = b.mark; id = b.id; setup = b.setup; clock = b.clock; channels = set b.channels n ch }

abbrev pub with_clock : Book → ℕ → Book
with_clock b t = record { mark = b.mark; id = b.id; setup = b.setup; clock = seconds t; channels = b.channels }

-- ---- a reading: the deadline is 0 outside 4 and 5, the closing's customer part and lock zeros outside 5

abbrev pub no_reading : ℕ → Reading
no_reading r = record { total = cents 0; held = cents 0; deadline = seconds 0; kept = cents 0; refusal = r; status = 0; lock = replicate 32 0 }

unfoldable pub read_channel : Channel → Reading
read_channel ch = record {
  total = cents (total ch);
  held = cents (held ch);
  deadline = cond (closing ch) ch.deadline (seconds 0);
  kept = cond (eqb ch.status 5) ch.kept (cents 0);
  refusal = 0;
  status = ch.status;
  lock = cond (eqb ch.status 5) ch.lock (replicate 32 0);
}

-- Of an unsound book 99 and zeros, of a sound one with n from 64 on 4 and zeros.
unfoldable pub reading : Book → ℕ → Reading
reading b n = cond (sound b) (cond (ltb n 64) (read_channel (channel b n)) (no_reading 4)) (no_reading 99)
