use Rattle.std.proofs.Common.{◌∙◌, sym, arith, length-drop, length-take}
use Rattle.report.proofs.Going.{runs, made_more, made_last}
use Rattle.report.proofs.parts.next_part.Goals as goal

pub overflow_add-used : goal.overflow_add-used
overflow_add-used c =
    let k = runs c.args.input.now c.args.from _ _ _ _ (omega arith) c.no_lines.ensures c.run_of-done.ensures in
    omega (arith, k.bytes, length-drop 16 c.args.input.now)

pub slice_bounds-lines-end : goal.slice_bounds-lines-end
slice_bounds-lines-end c =
    let k = runs c.args.input.now c.args.from _ _ _ _ (omega arith) c.no_lines.ensures c.run_of-done.ensures in
    omega (arith, k.lines, k.lent)

pub slice_bounds-put_lines-end : goal.slice_bounds-put_lines-end
slice_bounds-put_lines-end c =
    let k = runs c.args.input.now c.args.from _ _ _ _ (omega arith) c.no_lines.ensures c.run_of-done.ensures in
    omega (arith, k.lines, k.lent, length-take c.run_of-done.result.ran.lines c.run_of-done.result.lines)

pub overflow_add-number : goal.overflow_add-number
overflow_add-number c =
    let k = runs c.args.input.now c.args.from _ _ _ _ (omega arith) c.no_lines.ensures c.run_of-done.ensures in
    omega (arith, k.each, k.bytes, length-drop 16 c.args.input.now)

pub returns-then-ran-from : goal.returns-then-ran-from
returns-then-ran-from c =
    let k = runs c.args.input.now c.args.from _ _ _ _ (omega arith) c.no_lines.ensures c.run_of-done.ensures in
    made_more _ _ _ _ _ _ k (c.if-ran-from.true ∙ c.from.ensures) (rw c.new-text.ensures at c.put_lines.ensures.text)

pub returns : goal.returns
returns c =
    let k = runs c.args.input.now c.args.from _ _ _ _ (omega arith) c.no_lines.ensures c.run_of-done.ensures in
    made_last _ _ _ _ _ _ k (λ e. c.if-ran-from.false (e ∙ sym c.from.ensures)) (rw (c.put_lines.ensures.text, c.new-text.ensures) at c.put_end.ensures.text)
