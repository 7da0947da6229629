-- After some turns the numbers so far are written, each with a blank after it.
use Rattle.std.proofs.Common.{◌≡◌, ◌+◌, ◌*◌, ◌≤◌, ◌++◌, take}
use Rattle.arrayvec.specs.ArrayVec.{array_vec_len}
use Rattle.decimals.proofs.Rows.{blanked}
use Rattle.decimals.proofs.numbers.push_row.Given as goal

abbrev pub invariant-loop-n : goal.invariant-loop-n
invariant-loop-n g l =
    (l.out.items ≡ l.initial.out.items ++ blanked (take l.n-index l.others))
    × (array_vec_len l.out ≤ array_vec_len l.initial.out + 21 * l.n-index)
