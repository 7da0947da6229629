-- After some turns the numbers so far stand at the place, each with a blank after it.
use Rattle.std.proofs.Common.{◌≡◌, ◌+◌, ◌*◌, ◌≤◌, length, take}
use Rattle.wire.specs.Parts.{pasted}
use Rattle.decimals.proofs.Rows.{blanked}
use Rattle.decimals.proofs.numbers.put_row.Given as goal

abbrev pub invariant-loop-n : goal.invariant-loop-n
invariant-loop-n l =
    (length l.out ≡ length l.initial.out)
    × (l.out ≡ pasted l.initial.out l.at (blanked (take l.n-index l.others)))
    × (l.place ≡ l.at + length (blanked (take l.n-index l.others)))
    × (l.place ≤ l.at + 21 * l.n-index)
