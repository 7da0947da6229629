-- After the steps up to j, what is left of the walk is the walk from j on.
use Rattle.std.proofs.Common.{◌≡◌, ◌-◌, take, length}
use Rattle.sha256.specs.Digest.{digest_of}
use Rattle.lms.specs.OneTime.{walk}
use Rattle.lms.proofs.one_time.chain.Given as goal

abbrev pub invariant-loop-j : goal.invariant-loop-j
invariant-loop-j l =
    (length l.prefix ≡ 23) × (take 22 l.prefix ≡ take 22 l.fn.start)
    × (walk (take 22 l.fn.start) (l.to - l.from) l.from (digest_of l.initial.value) ≡ walk (take 22 l.fn.start) (l.to - l.j) l.j (digest_of l.value))
