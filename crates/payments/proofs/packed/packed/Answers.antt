use Rattle.std.proofs.Common.{arith, refl, sym, ◌%◌, ◌+◌, ◌≡◌}
use native.Mathlib.Nat.{div-one}
use Rattle.payments.proofs.Digits.{hexed_next, hexed_fits, rest_next, shifted, packed_number}
use Rattle.payments.proofs.packed.packed.Goals as goal

pub loop-place-init : goal.loop-place-init
loop-place-init c = (omega arith, sym (div-one c.args.amount), refl)

pub overflow_add-halves : goal.overflow_add-halves
overflow_add-halves c =
    let l = c.loop-place in
    let i = l.invariant in
    let s = shifted l.place (l.rest % 10) c.loop-place-test.true (omega arith) in
    omega (arith, s, hexed_next l.place c.args.amount l.rest l.halves i.1 i.2, hexed_fits (l.place + 1) c.args.amount (omega arith))

pub loop-place-preserved : goal.loop-place-preserved
loop-place-preserved c =
    let l = c.loop-place in
    let i = l.invariant in
    let s = shifted l.place (l.rest % 10) c.loop-place-test.true (omega arith) in
    (omega arith, rest_next l.place c.args.amount l.rest i.1, rw s (hexed_next l.place c.args.amount l.rest l.halves i.1 i.2))

pub returns : goal.returns
returns c =
    let l = c.loop-place in
    let a = c.args.amount in
    let n : l.place ≡ 15 = omega arith in
    rw c.to_be_bytes.ensures (packed_number a l.halves (rw n at l.invariant.2))
