-- Before each turn: what the list holds, and the payments that are left.
use Rattle.bank.specs.Left.{left}
use Rattle.bank.proofs.Storing.{Stored}
use Rattle.bank.proofs.collecting.collect.Given as goal

abbrev pub invariant-loop-i : goal.invariant-loop-i
invariant-loop-i l = Stored l.commands l.lines l.fn.list l.list l.i-iterator.count (left l.i-iterator.iter)
