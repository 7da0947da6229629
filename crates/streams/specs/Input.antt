-- How many bytes a reading put at the start of a buffer, whether or not a read failed after them.
use Rattle.std.specs.Prelude.{ℕ, Result, Ok, Err}
use Rattle.streams.specs.declared.input.Failed.{Failed}

abbrev pub read_of : Result ℕ Failed → ℕ
read_of (Ok n) = n
read_of (Err e) = e.read
