use Rattle.std.proofs.Common.{refl, arith}
use Rattle.lms.specs.OneTime.{deficit}
use Rattle.lms.proofs.Laws.{deficit_more}
use Rattle.lms.proofs.one_time.deficit.Goals as goal

pub loop-byte-init : goal.loop-byte-init
unfolding deficit
loop-byte-init c = record { so_far = refl; most = omega arith }

pub loop-byte-preserved : goal.loop-byte-preserved
loop-byte-preserved c =
    let l = c.loop-byte in
    record { so_far = deficit_more _ l.byte-index l.invariant.so_far c.from.ensures; most = omega arith }
