-- A text in a buffer: what is printed of it is the text.
use Rattle.std.proofs.Common.{◌≡◌, ℕ, List}
use Rattle.wire.proofs.Pasting.{take-pasted}
use Rattle.report.specs.Parts.{no_bytes, stored, shown}

pub shown_stored : (t : List ℕ) → shown (stored t) ≡ t
unfolding stored
shown_stored t = take-pasted no_bytes t
