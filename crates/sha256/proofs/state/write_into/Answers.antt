use Rattle.std.proofs.Common.{length, ◌≡◌, ◌+◌, ◌%◌, ◌<◌, add-one, arith}
use Rattle.std.proofs.Math.Seq.{paste-suc}
use Rattle.sha256.proofs.state.write_into.Goals as goal

pub loop-j-preserved : goal.loop-j-preserved
loop-j-preserved c =
    let h : c.args.at + c.loop-j.j < length c.args.block.now = omega arith in
    let k : (c.args.at + c.loop-j.j) % 64 ≡ c.args.at + c.loop-j.j = omega arith in
    (rw (k, c.loop-j.invariant.0, add-one) (paste-suc c.args.block.now c.args.at c.args.part.now c.loop-j.j 0 h (omega arith)), omega arith)
