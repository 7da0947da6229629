-- What collecting answers, by whether the list has room.
use Prim.Native.Nat.{ℕ}
use mathlib.Core.Path.{◌≡◌}
use mathlib.Core.Bool.{true, false}
use mathlib.Core.List.{List, map}
use lib.Dec.{leb}
use lib.ListN.{length}
use Rattle.wire.specs.Parts.{pasted}
use Rattle.machine.specs.Checks.{ask}
use Rattle.payments.specs.Payments.{listed}
use Rattle.payments.specs.Answers.{accepted, refused, refusal_of, filled}
use Rattle.journal.specs.declared.lines.Line.{Line}
use Rattle.bank.specs.Collected.{collected}
use Rattle.bank.specs.Answers.{collect_of}

module _ (cs : List ℕ) (ls : List Line) (list : List (List ℕ)) where
  pub collect_18 : leb (length (collected cs ls)) (length list) ≡ false → collect_of cs ls list ≡ record { answer = refused 18; list = list }
  unfolding filled refusal_of ask
  collect_18 e = rw e

  pub collect_0 : leb (length (collected cs ls)) (length list) ≡ true
      → collect_of cs ls list ≡ record { answer = accepted (length (collected cs ls)); list = pasted list 0 (map listed (collected cs ls)) }
  unfolding filled refusal_of ask
  collect_0 e = rw e
