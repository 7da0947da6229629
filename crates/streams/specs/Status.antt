-- The status of a program whose output failed: what a shell shows for the signal of a closed pipe, 128 and 13, where it was closed, else 0.
use Rattle.std.specs.Prelude.{◌≡◌, ℕ, Result, MatchResult}
use Rattle.std.specs.IoError.{error_kind}
use Rattle.std.specs.declared.io.Error.{Error}
use Rattle.std.specs.declared.io.ErrorKind.{ErrorKind}
use Rattle.std.specs.declared.io.ErrorKind.TheVariants.{BrokenPipe}

abbrev pub status_of : ErrorKind → ℕ
status_of BrokenPipe = 141
status_of _ = 0

-- The status after what a program's output came to.
abbrev pub IsStatusAfter : Result Unit Error → ℕ → Type 0
IsStatusAfter done n = MatchResult done (λ _. n ≡ 0) (λ e. n ≡ status_of (error_kind e))
