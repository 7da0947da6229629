-- Document 02, No. 6: figures of collecting.
use Rattle.std.specs.Prelude.{ℕ, ◌≡◌, List, [], ◌∷◌, ◌++◌, replicate}
use Rattle.machine.specs.Book.{cents}
use Rattle.payments.specs.Payments.{payment}
use Rattle.payments.specs.Answers.{accepted, refused}
use Rattle.journal.specs.declared.lines.Line.{Line}
use Rattle.bank.specs.Collected.{collected}
use Rattle.bank.specs.Answers.{collect_of}

-- A list of so many entries.
abbrev pub list_lent : ℕ → List (List ℕ)
list_lent n = replicate n (7 ∷ 7 ∷ 7 ∷ [])

-- A settle of channel n, a clock command, and a line with a refusal, two payments and a fee, which is not collected.
abbrev pub settle_of : ℕ → List ℕ
settle_of n = 0x0A ∷ 0x00 ∷ n ∷ []

abbrev pub clock_command : List ℕ
clock_command = 0x01 ∷ replicate 8 0

abbrev pub line_with : ℕ → ℕ → ℕ → Line
line_with refusal customer merchant = record { answer = record { customer = cents customer; merchant = cents merchant; steps = 0; refusal = refusal; fee = cents 1 } }

pub record Collects : Type 0 where
  -- the customer's first; 01 is passed over with its line; a refused line counts; n is as the command has it; a line too many is not looked at
  pub collects : collected (settle_of 3 ++ clock_command ++ settle_of 64 ++ settle_of 5) (line_with 0 40 60 ∷ line_with 0 1 2 ∷ line_with 99 0 1000000000000000 ∷ line_with 0 0 0 ∷ line_with 0 8 9 ∷ [])
      ≡ payment 1 3 40 ∷ payment 2 3 60 ∷ payment 2 64 1000000000000000 ∷ []
  -- with a line too few it ends there; at a byte that is no command, and at a command that is cut short, it ends too
  pub line_too_few : collected (settle_of 3 ++ settle_of 5) (line_with 0 40 0 ∷ []) ≡ payment 1 3 40 ∷ []
  pub no_command : collected (settle_of 3 ++ (0x0B ∷ settle_of 5)) (line_with 0 40 0 ∷ line_with 0 1 0 ∷ line_with 0 2 0 ∷ []) ≡ payment 1 3 40 ∷ []
  pub cut_short : collected (settle_of 3 ++ (0x0A ∷ 0x00 ∷ [])) (line_with 0 40 0 ∷ line_with 0 1 0 ∷ []) ≡ payment 1 3 40 ∷ []
  pub collects_short : collect_of (settle_of 3) (line_with 0 40 60 ∷ []) (list_lent 1) ≡ record { answer = refused 18; list = list_lent 1 }
  pub collects_long : collect_of (settle_of 3) (line_with 0 40 60 ∷ []) (list_lent 3) ≡ record { answer = accepted 2; list = (1 ∷ 3 ∷ 40 ∷ []) ∷ (2 ∷ 3 ∷ 60 ∷ []) ∷ list_lent 1 }
