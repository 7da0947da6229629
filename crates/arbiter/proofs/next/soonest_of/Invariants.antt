-- From the last channel to the first: after the turn for channel i, the soonest of the channels from i on.
use Rattle.std.proofs.Common.{drop, ◌≡◌}
use Rattle.machine.specs.Due.{soonest}
use Rattle.arbiter.specs.Next.{soonest_in}
use Rattle.arbiter.proofs.next.soonest_of.Given as goal

abbrev pub invariant-loop-n : goal.invariant-loop-n
invariant-loop-n l = soonest_in l.best ≡ soonest l.n (drop l.n l.channels)
