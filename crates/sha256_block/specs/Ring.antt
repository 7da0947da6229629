-- The last sixteen words of the schedule in a ring: each stands at its number's place, counted modulo 16.
use Rattle.std.specs.Prelude.{ℕ, ◌≡◌, List, ◌++◌, take, drop}
use Rattle.sha256_block.specs.Block.{extended}

-- After the sixteen words x and i more the ring is w.
pub record Ring (x : List ℕ) (i : ℕ) (w : List ℕ) : Type 0 where
  pub made : extended i x ≡ x ++ take i w
  pub left : drop i w ≡ drop i x
