use Rattle.std.proofs.Common.{arith}
use Rattle.sha256_block.proofs.Laws.{ring_same}
use Rattle.sha256_block.proofs.schedule.four_on.Goals as goal

pub returns : goal.returns
returns c = λ x l r.
    let one = c.one_on-one.ensures x l r in
    let two = c.one_on-two.ensures x l one in
    let three = c.one_on-three.ensures x l (ring_same x _ _ _ (omega arith) two) in
    ring_same x _ _ _ (omega arith) (c.one_on.ensures x l (ring_same x _ _ _ (omega arith) three))
