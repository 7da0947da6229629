use Rattle.std.proofs.Common.{arith}
use Rattle.bank.proofs.Pairs.{ends, has_line, there, three, pays}
use Rattle.bank.proofs.paid.Payments.pair.Goals as goal

pub returns-in_default-clause-pays : goal.returns-in_default-clause-pays
returns-in_default-clause-pays c = ends _ _ c.in_default.field-0 c.in_default.ensures

pub returns-in_err-line-clause-pays : goal.returns-in_err-line-clause-pays
returns-in_err-line-clause-pays c =
    let h = has_line c.args.self.now.commands.now c.args.self.now.lines.now c.in-Ok.size c.in-Ok.ensures in
    absurd (omega (arith, h, c.in_err-line.ensures.cases))

pub split_at-requires : goal.split_at-requires
split_at-requires c = there _ _ _ c.in-Ok.ensures

pub paid_in-requires : goal.paid_in-requires
paid_in-requires c =
    let h = three c.args.self.now.commands.now c.args.self.now.lines.now c.in-Ok.size c.in-Ok.ensures in
    omega (arith, h, c.split_at.ensures.front_len)

pub returns-clause-pays : goal.returns-clause-pays
returns-clause-pays c =
    let h = pays c.args.self.now.commands.now c.args.self.now.lines.now c.in-Ok.size c.in-Ok.ensures c.in_ok-line.line.now c.in_ok-line.lines.now c.in_ok-line.ensures.cases.0 in
    cc
