-- What an opening takes of its id.
use mathlib.Core.Path.{◌≡◌}
use mathlib.Core.List.{List}
use Prim.Native.Nat.{ℕ}
use native.Mathlib.Omega.{arith}
use lib.ListN.{length}
use lib.Seq.{take_all}
use Rattle.wire.specs.Parts.{part}

pub part_all : (id : List ℕ) → length id ≡ 16 → part id 0 16 ≡ id
part_all id h = take_all 16 id (omega arith)
