-- After i turns the entries of the first i payments are written.
use Rattle.std.proofs.Common.{length, map, take, ◌≡◌, ◌≤◌}
use Rattle.wire.specs.Parts.{pasted}
use Rattle.payments.specs.Payments.{payment_of}
use Rattle.payments.specs.Packed.{written}
use Rattle.payments.proofs.writing.put_entries.Given as goal

abbrev pub invariant-loop-i : goal.invariant-loop-i
invariant-loop-i l = (l.i ≤ length l.list) × (l.buffer ≡ pasted l.initial.buffer 0 (written (map payment_of (take l.i l.list))))
