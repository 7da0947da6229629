use Rattle.std.proofs.Common.{◌-◌, ◌%◌, ◌∙◌, arith}
use Rattle.sha256.proofs.Ending.{shorter, finished}
use Rattle.sha256.proofs.state.Sha256.finish.Goals as goal

pub returns : goal.returns
returns c m t =
    let mark = shorter c.mark.result ((119 - c.args.self.n % 64) % 64) _ c.mark.ensures (omega arith) (omega arith) in
    c.digest.ensures ∙ finished c.args.self c.feed.result c.feed-whole.result m _ _ t c.feed.ensures c.feed-whole.ensures mark c.bit_length-bits.ensures
