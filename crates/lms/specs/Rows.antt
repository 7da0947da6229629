-- Byte strings in a row.
use Rattle.std.specs.Prelude.{ℕ, zero, suc, List, [], ◌++◌}

-- f 0, f 1 and so on to f (n - 1), one behind the other.
unfoldable pub row : (ℕ → List ℕ) → ℕ → List ℕ
row f zero = []
row f (suc n) = row f n ++ f n
