use Rattle.std.proofs.Common.{arith}
use Rattle.sha256_block.proofs.Laws.{turn, turned, four_of}
use Rattle.sha256_block.proofs.rounds.four_rounds.Goals as goal

pub returns : goal.returns
returns c =
    rw (four_of c.args.k.now c.args.i (omega arith), four_of c.args.w.now c.args.i (omega arith))
    (turn _ _ _ _ _ c.round-one.ensures (turn _ _ _ _ _ c.round-two.ensures (turn _ _ _ _ _ c.round-three.ensures (turn _ _ _ _ _ c.round.ensures turned))))
