use Rattle.std.proofs.Common.{arith}
use Rattle.lms.proofs.Laws.{numbered}
use Rattle.lms.proofs.one_time.numbered_start.Goals as goal

pub returns : goal.returns
returns c = numbered _ _ _ c.args.i (omega arith) (omega arith) c.chain_start-numbered.ensures
