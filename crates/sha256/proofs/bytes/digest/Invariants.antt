-- After i words their bytes stand in front.
use Rattle.std.proofs.Common.{◌≡◌, ◌*◌, [], ◌∷◌, length, take}
use Rattle.std.specs.List.{flat_map}
use Rattle.wire.specs.Numbers.{bytes}
use Rattle.sha256.proofs.bytes.digest.Given as goal

abbrev pub invariant-loop-i : goal.invariant-loop-i
invariant-loop-i l =
    (length l.out ≡ 32)
    × (take (4 * l.i) l.out ≡ flat_map (bytes 4) (take l.i (l.fn.v.a ∷ l.fn.v.b ∷ l.fn.v.c ∷ l.fn.v.d ∷ l.fn.v.e ∷ l.fn.v.f ∷ l.fn.v.g ∷ l.fn.v.h ∷ [])))
