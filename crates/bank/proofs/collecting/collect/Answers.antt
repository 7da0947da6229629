use Rattle.std.proofs.Common.{arith}
use Rattle.bank.proofs.Storing.{counted, store, all_stored}
use Rattle.bank.proofs.collecting.collect.Goals as goal

pub loop-i-preserved : goal.loop-i-preserved
loop-i-preserved c =
    let n = counted c.args.commands.now c.args.lines.now c.args.list.now c.new-payments.result c.count-count.result c.count-count.ensures.ran c.new-payments.ensures in
    let k = c.in-Some.ensures.steps in
    store c.args.commands.now c.args.lines.now c.args.list.now (omega (arith, n)) _ _ _ _ _ _ _ _ c.loop-i.invariant k.0 k.1 k.2 c.into.ensures

pub returns : goal.returns
returns c =
    let n = counted c.args.commands.now c.args.lines.now c.args.list.now c.new-payments.result c.count-count.result c.count-count.ensures.ran c.new-payments.ensures in
    all_stored c.args.commands.now c.args.lines.now c.args.list.now (omega (arith, n)) _ _ _ _ c.loop-i.invariant c.in-None.ensures.steps.0.0 n
