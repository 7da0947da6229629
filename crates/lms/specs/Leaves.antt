-- Document 02, No. 5: the leaf that a check hands back.
use Rattle.std.specs.Prelude.{ℕ, ◌<◌, ◌≡◌, true, false, List}
use Rattle.wire.specs.Numbers.{u32_at}
use Rattle.lms.specs.Check.{Checked, check_of}

-- A good signature's leaf is its first four bytes; where the verdict is no it is 0, and it is always one of the tree's.
pub record HandsBack (signature : List ℕ) (r : Checked) : Type 0 where
  pub good : r.verdict ≡ true → r.leaf ≡ u32_at signature 0
  pub bad : r.verdict ≡ false → r.leaf ≡ 0
  pub inside : r.leaf < 1024

abbrev pub LeafLaw : Type 0
LeafLaw = (key message signature : List ℕ) → HandsBack signature (check_of key message signature)
