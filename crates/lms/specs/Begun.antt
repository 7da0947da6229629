-- A hash that has taken in an identifier, a number in four bytes and a tag of two equal bytes.
use Rattle.std.specs.Prelude.{ℕ, ◌≡◌, List, [], ◌∷◌, ◌++◌}
use Rattle.wire.specs.Numbers.{bytes}
use Rattle.sha256.specs.declared.state.Sha256.{Sha256}
use Rattle.sha256.specs.State.{Taken}

pub record Begun (I : List ℕ) (number tag : ℕ) (s : Sha256) : Type 0 where
  pub count : s.n ≡ 22
  pub taken : Taken s (I ++ bytes 4 number ++ tag ∷ tag ∷ [])
