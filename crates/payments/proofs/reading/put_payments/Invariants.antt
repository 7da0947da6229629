-- After i turns the payments of the first i entries are stored.
use Rattle.std.proofs.Common.{length, take, ◌≡◌, ◌≤◌}
use Rattle.wire.specs.Parts.{pasted}
use Rattle.payments.proofs.Listing.{payments}
use Rattle.payments.proofs.reading.put_payments.Given as goal

abbrev pub invariant-loop-i : goal.invariant-loop-i
invariant-loop-i l = (l.i ≤ length l.entries) × (l.list ≡ pasted l.initial.list 0 (payments (take l.i l.entries)))
