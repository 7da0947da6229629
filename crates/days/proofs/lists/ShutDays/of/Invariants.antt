use Rattle.std.proofs.Common.{◌≡◌}
use Rattle.calendar.proofs.Listing.{Kept}
use Rattle.days.proofs.lists.ShutDays.of.Given as goal

abbrev pub invariant-loop-i : goal.invariant-loop-i
invariant-loop-i l = l.days ≡ Kept l.dates l.i
