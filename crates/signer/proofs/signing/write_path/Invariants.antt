-- After i turns the first i path strings are written.
use Rattle.std.proofs.Common.{◌≡◌, ℕ, ◌-◌, ◌*◌, List, [], ◌++◌, length, get_or, replicate}
use Rattle.signer.proofs.Parts.{Writing}
use Rattle.signer.proofs.signing.write_path.Given as goal

abbrev pub invariant-loop-i : goal.invariant-loop-i
invariant-loop-i l =
    (length l.signature ≡ 1452)
    × ((a : List ℕ) → length a ≡ 1132 → l.initial.signature ≡ a ++ replicate 320 0 → Writing (λ i. get_or l.fn.path i []) a (32 * (10 - l.i)) l.i l.signature)
