-- After i turns the first i strings are written.
use Rattle.std.proofs.Common.{◌≡◌, ℕ, ◌+◌, ◌-◌, ◌*◌, List, ◌++◌, length, replicate}
use Rattle.signer.specs.Signature.{signed_string}
use Rattle.signer.proofs.Parts.{Writing}
use Rattle.signer.proofs.signing.write_strings.Given as goal

abbrev pub invariant-loop-i : goal.invariant-loop-i
invariant-loop-i l =
    (length l.signature ≡ 1452)
    × ((a : List ℕ) → length a ≡ 40 → l.initial.signature ≡ a ++ replicate 1412 0
    → Writing (signed_string l.seed l.leaf.id l.leaf.number l.digits) a (324 + 32 * (34 - l.i)) l.i l.signature)
