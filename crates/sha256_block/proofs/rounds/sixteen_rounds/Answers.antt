use Rattle.std.proofs.Common.{◌≡◌, length, arith}
use Rattle.std.proofs.lemmas.List.{take_all}
use Rattle.sha256_block.proofs.Laws.{more_rounds, turned}
use Rattle.sha256_block.proofs.rounds.sixteen_rounds.Goals as goal

pub returns : goal.returns
returns c =
    let k = c.args.k.now in
    let w = c.args.w.now in
    let v = c.args.v in
    let same : length k ≡ length w = omega arith in
    let four = more_rounds 4 0 k w v v _ same turned c.four_rounds-four.ensures in
    let eight = more_rounds 4 4 k w v _ _ same four c.four_rounds-eight.ensures in
    let twelve = more_rounds 4 8 k w v _ _ same eight c.four_rounds-twelve.ensures in
    rw (take_all 16 k (omega arith), take_all 16 w (omega arith)) at (more_rounds 4 12 k w v _ _ same twelve c.four_rounds.ensures)
