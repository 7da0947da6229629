-- Document 02, No. 6: what is collected from a run is what its answers paid.
use Rattle.std.specs.Prelude.{ℕ, ◌+◌, ◌<◌, ◌≡◌, true, cond, List, [], eqb, length}
use Rattle.machine.specs.Opening.{Opening, opening}
use Rattle.ledger.specs.Ledger.{Entry, Event, Paid, sum, paid, strings, closed, split}
use Rattle.machine.specs.declared.state.Book.{Book}
use Rattle.payments.specs.declared.lists.Payment.{Payment}
use Rattle.journal.specs.Runs.{run_of}
use Rattle.journal.specs.Divided.{divided, told}
use Rattle.journal.specs.declared.lines.Line.{Line}
use Rattle.bank.specs.Collected.{collected}

-- What a payment pays to a party; in channel n.
abbrev pub paid_to : ℕ → Payment → ℕ
paid_to party p = cond (eqb p.party party) p.amount.0 0

abbrev pub paid_to_in : ℕ → ℕ → Payment → ℕ
paid_to_in n party p = cond (eqb p.channel n) (paid_to party p) 0

-- Cents that reach each side.
pub record Sides : Type 0 where
  pub customer : ℕ
  pub merchant : ℕ

abbrev pub sides : (ℕ → Payment → ℕ) → List Payment → Sides
sides f l = record { customer = sum (f 1) l; merchant = sum (f 2) l }

-- What is paid without the fee, which is a payment to neither side.
abbrev pub net : Paid → Sides
net p = record { customer = p.customer; merchant = p.merchant }

-- What the answers in a history paid.
abbrev pub answered : List Entry → Paid
answered h = record { customer = sum (λ e. e.answer.customer.0) h; merchant = sum (λ e. e.answer.merchant.0) h; fee = sum (λ e. e.answer.fee.0) h }

pub record AddsUp (ps : List Payment) (h : List Entry) : Type 0 where
  -- all payments, side by side, are all that the answers paid to each
  pub all : sides paid_to ps ≡ net (answered h)
  -- those of channel n are what the strings of n paid to each
  pub each : (n : ℕ) → sides (paid_to_in n) ps ≡ net (paid (strings n h))

-- What reached each side of a closed channel with these strings is its split, of which the desk kept the fees from the merchant's figure.
pub record ClosedPays (got : Sides) (l : List Event) : Type 0 where
  pub customer : got.customer ≡ (split l).customer
  pub merchant : got.merchant + (paid l).fee ≡ (split l).merchant

-- Of every run, whatever book it begins with: its own commands and lines, and the history that they tell.
abbrev pub CollectedAddsUp : Type 0
CollectedAddsUp = (b : Book) (cs : List ℕ) (ls : List Line) → let d = run_of b cs ls in AddsUp (collected cs d.lines) (told [] (divided (length ls) cs) d.lines)

-- So, of a journal on a book just opened, every closed channel's payments are with its fees the split of its way of closing.
abbrev pub ClosedSplit : Type 0
ClosedSplit =
    (lent : Book) (o : Opening) → (opening lent o).refusal ≡ 0 → (cs : List ℕ) (ls : List Line) (n : ℕ) → n < 64
    → let d = run_of (opening lent o).book cs ls in let l = strings n (told [] (divided (length ls) cs) d.lines) in closed l ≡ true → ClosedPays (sides (paid_to_in n) (collected cs d.lines)) l
