-- A field of an input: the length in two bytes, the highest first, and so many bytes.
use Rattle.std.specs.Prelude.{ℕ, ◌+◌, ◌*◌, List, get_or}

abbrev pub field_size : List ℕ → ℕ
field_size m = get_or m 0 0 * 256 + get_or m 1 0
