use Rattle.std.proofs.Common.{arith, refl}
use Rattle.payments.specs.Packed.{spelled, halves}
use Rattle.payments.proofs.EntryBytes.{amount_next, bound_next, bound_within, amount_is, pairs, pairs_length}
use Rattle.payments.proofs.entries.amount_in.Goals as goal

pub loop-b-init : goal.loop-b-init
unfolding spelled halves
loop-b-init c = (refl, omega arith, pairs_length c.args.e.now c.told-e)

pub loop-b-preserved : goal.loop-b-preserved
loop-b-preserved c =
    let l = c.loop-b in
    let n = c.number_of.ensures in
    (amount_next (pairs c.args.e.now) l.b-index l.amount c.number_of.result c.loop-b-test.true l.invariant.0 n.0, bound_next l.b-index l.amount c.number_of.result l.invariant.1 n.1, l.invariant.2)

pub overflow_mul-amount : goal.overflow_mul-amount
overflow_mul-amount c = let l = c.loop-b in omega (arith, bound_within l.b-index l.amount 6 (omega arith) l.invariant.1)

pub returns : goal.returns
returns c = let l = c.loop-b in rw c.from.ensures (amount_is c.args.e.now l.amount l.b-index c.told-e l.invariant.0 c.loop-b-test.false)
