use Rattle.std.proofs.Common.{◌≡◌, ◌+◌, ◌*◌, ◌≤◌, [], ◌∷◌, ◌++◌, refl, sym, ap, take, length, length-append, arith, rules}
use Rattle.wire.proofs.Pasting.{pasted_none}
use Rattle.decimals.specs.Numbers.{row}
use Rattle.decimals.proofs.Rows.{blanked, blanked_take, row_none, row_closed, put_after}
use Rattle.decimals.proofs.numbers.put_row.Goals as goal

pub returns-in_default : goal.returns-in_default
returns-in_default c =
    let n : length c.args.numbers.now ≡ 0 = search rules in
    let e : row c.args.numbers.now ≡ [] = row_none [] c.args.numbers.now n in
    rw e (sym (pasted_none c.args.out.now c.args.at), omega arith, omega arith)

pub loop-n-init : goal.loop-n-init
unfolding blanked
loop-n-init c = (refl, sym (pasted_none c.args.out.now c.args.at), omega arith, omega arith)

pub loop-n-preserved : goal.loop-n-preserved
loop-n-preserved c =
    let l = c.loop-n in
    let p = c.put_number-place.ensures in
    let ns = c.in-Some.others.now in
    let e : c.args.numbers.now ≡ ns ++ (c.in-Some.last.now ∷ []) = search rules in
    let n = ap length e in
    let w = put_after c.args.out.now l.out c.put_number-place.new.out (blanked (take l.n-index ns)) _ _ c.args.at l.place c.put_number-place.result
    l.invariant.1 l.invariant.2 p.0 p.1 (omega (arith, p.2, l.invariant.3, n, length-append ns (c.in-Some.last.now ∷ []))) (blanked_take ns l.n-index (omega arith)) in
    (w.0, w.1, w.2, omega (arith, p.2, l.invariant.3))

pub returns : goal.returns
returns c =
    let l = c.loop-n in
    let p = c.put_number.ensures in
    let ns = c.in-Some.others.now in
    let e : c.args.numbers.now ≡ ns ++ (c.in-Some.last.now ∷ []) = search rules in
    let n = ap length e in
    let m : c.put_number.result ≤ c.args.at + 21 * length c.args.numbers.now =
    omega (arith, p.2, l.invariant.3, n, length-append ns (c.in-Some.last.now ∷ [])) in
    let w = put_after c.args.out.now l.out c.put_number.new.out (blanked (take l.n-index ns)) _ _ c.args.at l.place c.put_number.result
    l.invariant.1 l.invariant.2 p.0 p.1 (omega (arith, m)) (row_closed ns c.args.numbers.now c.in-Some.last.now l.n-index e (omega arith)) in
    (w.1, w.2, m)
