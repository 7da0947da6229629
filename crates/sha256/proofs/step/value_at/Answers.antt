-- Eight words, four bytes each.
use Rattle.std.proofs.Common.{arith}
use Rattle.sha256.proofs.Behind.{value_in}
use Rattle.sha256.proofs.step.value_at.Goals as goal

pub returns : goal.returns
returns c = value_in c.args.s.now (λ k. (c.type_inv.s k).fits) c.args.at _ (omega arith) c.u32_at.ensures c.u32_at-2.ensures c.u32_at-3.ensures c.u32_at-4.ensures c.u32_at-5.ensures c.u32_at-6.ensures c.u32_at-7.ensures c.u32_at-8.ensures
