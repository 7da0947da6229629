-- Document 02, No. 6: what collecting answers, and the lent list after it.
use Rattle.std.specs.Prelude.{ℕ, List, [], ◌∷◌, leb, length}
use Rattle.machine.specs.Checks.{test}
use Rattle.payments.specs.Answers.{Filled, filled}
use Rattle.journal.specs.declared.lines.Line.{Line}
use Rattle.bank.specs.Collected.{collected}

abbrev pub collect_of : List ℕ → List Line → List (List ℕ) → Filled
collect_of cs ls list = let ps = collected cs ls in filled (test 18 (leb (length ps) (length list)) ∷ []) ps list
