-- After n turns the last n digits are set, and the others are left.
use Rattle.std.proofs.Common.{◌/◌, ◌^◌, ◌≡◌, ◌≤◌}
use Rattle.payments.proofs.Digits.{hexed}
use Rattle.payments.proofs.packed.packed.Given as goal

abbrev pub invariant-loop-place : goal.invariant-loop-place
invariant-loop-place l = (l.place ≤ 15) × (l.rest ≡ l.amount / 10 ^ l.place) × (l.halves ≡ hexed l.place l.amount)
