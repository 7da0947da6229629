use Rattle.std.proofs.Common.{◌≡◌, ◌+◌, ℕ, List, arith}
use Rattle.std.specs.Prelude.{slice_index, get_or}
use Rattle.wire.specs.Numbers.{u16_at}
use Rattle.wire.specs.Parts.{part}
use Rattle.wire.proofs.Laws.{at_part, in_part}
use Rattle.wire.proofs.numbers.u16_at.Goals as goal

pub returns : goal.returns
unfolding u16_at
returns c =
    let r : List ℕ = c.array_at.result in
    let s : List ℕ = c.args.s.now in
    let at : ℕ = c.args.at in
    let e : r ≡ part s at 2 = c.array_at.ensures in
    let p0 : slice_index r 0 ≡ get_or s (at) 0 = at_part r s at 2 e (omega arith) in
    let p1 : slice_index r 1 ≡ get_or s (at + 1) 0 = in_part r s at 2 1 e (omega arith) in
    omega (arith, c.from_be_bytes.ensures)
