-- What a hash under way has taken in.
use Rattle.std.specs.Prelude.{ℕ, ◌+◌, ◌*◌, ◌/◌, ◌%◌, ◌≡◌, List, ◌++◌, length, take, drop}
use Rattle.sha256.specs.declared.state.Sha256.{Sha256}
use Rattle.sha256.specs.Digest.{hashed}

-- The state s has taken in the message m: n counts its bytes, h is the hash value after its whole blocks, and the front of buf is what is left after those.
pub record Taken (s : Sha256) (m : List ℕ) : Type 0 where
  pub count : s.n ≡ length m
  pub value : s.h ≡ hashed (length m / 64) m
  pub rest : take (s.n % 64) s.buf ≡ drop (64 * (length m / 64)) m

-- The state r is the state s fed the part p: whatever s had taken in, r has taken in that and then p.
pub record Fed (s : Sha256) (p : List ℕ) (r : Sha256) : Type 0 where
  pub longer : r.n ≡ s.n + length p
  pub taken : (m : List ℕ) → Taken s m → Taken r (m ++ p)
