-- After i turns the first i lines are written.
use Rattle.std.proofs.Common.{◌≡◌, ◌+◌, ◌*◌, ◌≤◌, ◌++◌, take}
use Rattle.arrayvec.specs.ArrayVec.{array_vec_len}
use Rattle.report.specs.Lines.{lines_from}
use Rattle.report.proofs.lines.put_lines.Given as goal

abbrev pub invariant-loop-i : goal.invariant-loop-i
invariant-loop-i l =
    (l.out.items ≡ l.initial.out.items ++ lines_from l.number (take l.i l.lines))
    × (array_vec_len l.out ≤ array_vec_len l.initial.out + 126 * l.i)
