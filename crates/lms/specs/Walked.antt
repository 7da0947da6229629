-- How the code walks the chains: what it holds on the way (document 02, No. 3), and what `leaf_key` answers.
use Rattle.std.specs.Prelude.{ℕ, ◌+◌, ◌*◌, ◌≡◌, List, [], ◌∷◌, ◌++◌}
use Rattle.wire.specs.Numbers.{bytes}
use Rattle.sha256.specs.declared.state.Sha256.{Sha256}
use Rattle.sha256.specs.State.{Taken}
use Rattle.lms.specs.declared.one_time.Walked.{Walked}
use Rattle.lms.specs.Rows.{row}
use Rattle.lms.specs.OneTime.{leaf_key, step_count}

-- I and q, with room for a chain's number in two bytes and a step's in one.
abbrev pub chain_start : List ℕ → ℕ → List ℕ
chain_start I q = I ++ bytes 4 q ++ 0 ∷ 0 ∷ 0 ∷ []

-- The hash state s is that of I, q, 8080 and the ends of the first n chains: it has taken in 22 bytes and 32 for each end.
pub record Fed (I : List ℕ) (q : ℕ) (end : ℕ → List ℕ) (n : ℕ) (s : Sha256) : Type 0 where
  pub count : s.n ≡ 22 + 32 * n
  pub taken : Taken s (I ++ bytes 4 q ++ bytes 2 0x8080 ++ row end n)

abbrev pub walked_of : List ℕ → ℕ → List ℕ → List ℕ → Walked
walked_of I q Q signature = record { key = leaf_key I q Q signature; steps = step_count Q }
