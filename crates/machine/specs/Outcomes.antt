-- The numbers of the code's opcodes, statuses and refusals, and its results as the definitions say them.
use Rattle.std.specs.Prelude.{◌≡◌, false, ◌&&◌, ℕ, ◌<◌, leb, Result, Ok, Err, MatchResult}
use Rattle.machine.specs.Book.{cents}
use Rattle.machine.specs.Answered.{Judged, Ruled}
use Rattle.machine.specs.declared.numbers.Refusal.{Refusal}
use Rattle.machine.specs.declared.numbers.Status.{Status}
use Rattle.machine.specs.declared.numbers.Opcode.{Opcode}
use Rattle.machine.specs.declared.units.Cents.{Cents}
use Rattle.machine.specs.declared.state.Channel.{Channel}
use Rattle.machine.specs.declared.answers.Answer.{Answer}
use Rattle.machine.specs.declared.answers.Accepted.{Accepted}

abbrev pub refusal_number : Refusal → ℕ
refusal_number Refusal.Opcode = 1
refusal_number Refusal.Length = 2
refusal_number Refusal.Clock = 3
refusal_number Refusal.Channel = 4
refusal_number Refusal.Status = 5
refusal_number Refusal.Keys = 6
refusal_number Refusal.Delay = 7
refusal_number Refusal.Amounts = 8
refusal_number Refusal.Deadline = 9
refusal_number Refusal.Secret = 10
refusal_number Refusal.MerchantSignature = 11
refusal_number Refusal.CustomerSignature = 12
refusal_number Refusal.DefaultDelay = 14
refusal_number Refusal.Leaf = 16
refusal_number Refusal.Fee = 20
refusal_number Refusal.Date = 21
refusal_number Refusal.Dates = 22
refusal_number Refusal.Book = 99

abbrev pub status_number : Status → ℕ
status_number Status.Unused = 0
status_number Status.AwaitingCustomer = 1
status_number Status.AwaitingMerchant = 2
status_number Status.Open = 3
status_number Status.MerchantClosing = 4
status_number Status.CustomerClosing = 5
status_number Status.Closed = 6

abbrev pub opcode_number : Opcode → ℕ
opcode_number Opcode.Clock = 1
opcode_number Opcode.Establish = 2
opcode_number Opcode.FundCustomer = 3
opcode_number Opcode.FundMerchant = 4
opcode_number Opcode.Reclaim = 5
opcode_number Opcode.MutualClose = 6
opcode_number Opcode.CustomerClose = 7
opcode_number Opcode.MerchantClose = 8
opcode_number Opcode.Dispute = 9
opcode_number Opcode.Settle = 10

-- The status of a number; any number may stand in a lent book.
abbrev pub DecodesStatus : ℕ → Result Status Refusal → Type 0
DecodesStatus n r = MatchResult r (λ status. status_number status ≡ n) (λ e. (e ≡ Refusal.Status) × (6 < n))

-- The opcode of a byte; a byte that is none fails check 1.
abbrev pub DecodesOpcode : ℕ → Result Opcode Refusal → Type 0
DecodesOpcode byte r = MatchResult r (λ op. opcode_number op ≡ byte) (λ e. (e ≡ Refusal.Opcode) × ((leb 1 byte && leb byte 10) ≡ false))

abbrev pub refused_answer : ℕ → ℕ → Answer
refused_answer r steps = record { customer = cents 0; merchant = cents 0; steps = steps; refusal = r; fee = cents 0 }

-- Before the fee.
abbrev pub paid_answer : Cents → Cents → ℕ → Answer
paid_answer customer merchant steps = record { customer = customer; merchant = merchant; steps = steps; refusal = 0; fee = cents 0 }

-- Accepted, and nobody is paid.
abbrev pub unpaid : Channel → Accepted
unpaid ch = record { channel = ch; customer = cents 0; merchant = cents 0 }

-- What checks come to that made these chain steps: 0, or the number of the first that said no.
abbrev pub judged_of : {A : Type 0} → ℕ → Result A Refusal → Judged
judged_of steps (Ok _) = record { refusal = 0; steps = steps }
judged_of steps (Err e) = record { refusal = refusal_number e; steps = steps }

-- What a rule comes to on a channel: refused, it leaves it as it was.
abbrev pub ruled_of : Channel → ℕ → Result Accepted Refusal → Ruled
ruled_of before steps (Ok a) = record { channel = a.channel; answer = paid_answer a.customer a.merchant steps }
ruled_of before steps (Err e) = record { channel = before; answer = refused_answer (refusal_number e) steps }
