-- What is left stays; with each turn a line fewer is left.
use Rattle.std.proofs.Common.{◌≡◌, length}
use Rattle.bank.specs.Left.{left}
use Rattle.bank.proofs.paid.PaymentsIterator.next.Given as goal

abbrev pub invariant-loop-merchant : goal.invariant-loop-merchant
invariant-loop-merchant l = left l.self ≡ left l.fn.self

abbrev pub decreases-loop-merchant : goal.decreases-loop-merchant
decreases-loop-merchant l = length l.self.lines.now
