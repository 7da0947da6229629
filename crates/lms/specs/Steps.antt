-- Document 01, "Signature check": the number of chain steps.
use Rattle.std.specs.Prelude.{ℕ, ◌+◌, ◌*◌, ◌/◌, ◌≤◌, ◌≡◌, List, length}
use Rattle.lms.specs.OneTime.{checksum, step_count}
use Rattle.lms.specs.Check.{check_of}

-- Where the chains are walked it is always 255 × (high checksum byte + 2), and at most 8,415; so no check takes more.
pub record StepLaw : Type 0 where
  pub law : (Q : List ℕ) → length Q ≡ 32 → step_count Q ≡ 255 * (checksum Q / 256 + 2)
  pub most : (Q : List ℕ) → length Q ≡ 32 → step_count Q ≤ 8415
  pub check : (key message signature : List ℕ) → (check_of key message signature).steps ≤ 8415
