-- Document 02, No. 6: a run's payments above zero in command order, the customer's first.
use Rattle.std.specs.Prelude.{ℕ, suc, cond, List, [], ◌∷◌, ◌++◌, eqb, length, take, drop}
use Rattle.machine.specs.Format.{opcode, place}
use Rattle.payments.specs.Payments.{payment}
use Rattle.payments.specs.declared.lists.Payment.{Payment}
use Rattle.journal.specs.Runs.{next_of}
use Rattle.journal.specs.declared.lines.Line.{Line}

-- A payment, where it is above zero.
unfoldable pub above : Payment → List Payment
above p = cond (eqb p.amount.0 0) [] (p ∷ [])

-- What a command's line pays, whatever refusal it shows: 01 is passed over, n is as the command has it.
unfoldable pub paid_in : List ℕ → Line → List Payment
paid_in s l =
    cond (eqb (opcode s) 1) []
    (above (payment 1 (place s) l.answer.customer.0) ++ above (payment 2 (place s) l.answer.merchant.0))

-- Commands and lines side by side, to where the run would end.
unfoldable pub collected : List ℕ → List Line → List Payment
collected cs [] = []
collected cs (l ∷ ls) = let x = next_of cs (suc (length ls)) in cond x.goes (paid_in (take x.size cs) l ++ collected (drop x.size cs) ls) []
