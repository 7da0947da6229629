-- After i turns the amount is what the halves of the first i bytes spell.
use Rattle.std.proofs.Common.{take, length, ◌+◌, ◌*◌, ◌^◌, ◌≡◌, ◌≤◌}
use Rattle.payments.specs.Packed.{spelled, halves}
use Rattle.payments.proofs.entries.amount_in.Given as goal

abbrev pub invariant-loop-b : goal.invariant-loop-b
invariant-loop-b l = (l.amount ≡ spelled (halves (take l.b-index l.b-items))) × (l.amount + 2 ≤ 2 * 100 ^ l.b-index) × (length l.b-items ≡ 7)
