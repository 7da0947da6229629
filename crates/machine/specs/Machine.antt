-- Document 01, "Commands" and "Checks, in this order": one command on the lent book; document 02, No. 7: its fee. Generic in the signature
-- check and the hash.
use Rattle.std.specs.Prelude.{false, cond, ◌&&◌, List, [], ◌∷◌, ℕ, ◌+◌, length, get_or, eqb, leb, ltb}
use Rattle.machine.specs.Format.{opcode, size, time, place, customer_key, merchant_key, customer_deposit, merchant_deposit, delay, amount, lock, secret, signatures, signature, customer_part, merchant_part, message}
use Rattle.machine.specs.Book.{cents, party, limit, sound, channel, with_channel, with_clock}
use Rattle.machine.specs.Checks.{Check, test, Verdict, clean, passed, judge}
use Rattle.machine.specs.Fee.{charged}
use Rattle.machine.specs.Rules.{Payment, pay, Plan, establish, fund_customer, fund_merchant, reclaim, mutual_close, customer_close, merchant_close, dispute, settle}
use Rattle.machine.specs.declared.units.Cents.{Cents}
use Rattle.machine.specs.declared.state.Party.{Party}
use Rattle.machine.specs.declared.state.Channel.{Channel}
use Rattle.machine.specs.declared.state.Context.{Context}
use Rattle.machine.specs.declared.state.Book.{Book}
use Rattle.machine.specs.declared.answers.Answer.{Answer}
use Rattle.machine.specs.Answered.{Judged, Ruled}
use Rattle.machine.specs.declared.answers.Stepped.{Stepped}

-- A refused command pays 0 and 0, and counts the steps of the signature checks made. No fee is taken yet.
unfoldable pub answer : Judged → Cents → Cents → Answer
answer j customer merchant = record {
  customer = cond (passed j) customer (cents 0);
  merchant = cond (passed j) merchant (cents 0);
  steps = j.steps;
  refusal = j.refusal;
  fee = cents 0;
}

-- An answer of zeros.
abbrev pub no_answer : Answer
no_answer = record { customer = cents 0; merchant = cents 0; steps = 0; refusal = 0; fee = cents 0 }

-- A plan on one channel: a refused command changes nothing.
unfoldable pub concluded : Judged → Channel → Channel → Cents → Cents → Ruled
concluded j before after customer merchant = record { channel = cond (passed j) after before; answer = answer j customer merchant }

unfoldable pub ruling : Channel → Plan → Ruled
ruling ch p = concluded (judge clean p.checks) ch p.channel p.pays.customer p.pays.merchant

-- What a command asks, the book that it leaves, and what it pays.
pub record Order : Type 0 where
  pub checks : List Check
  pub book : Book
  pub pays : Payment

-- Check 3: the time is at least the clock and at most 2^63 - 1.
abbrev pub timed : ℕ → ℕ → List Check
timed clock t = test 3 (leb clock t && leb t limit) ∷ []

-- 01 clock.
abbrev pub set_clock : Book → ℕ → Order
set_clock b t = record {
  checks = timed b.clock.0 t;
  book = with_clock b t;
  pays = pay 0 0;
}

-- 02 to 0A: a plan for channel n.
abbrev pub on_channel : Book → ℕ → Plan → Order
on_channel b n p = record {
  checks =
      test 4 (ltb n 64)
      ∷ p.checks;
  book = with_channel b n p.channel;
  pays = p.pays;
}

-- Checks 1 and 2 come before a command's own, and 99 before them all.
abbrev pub formed : List ℕ → List Check → List Check
formed s own =
    test 1 (leb 1 (opcode s) && leb (opcode s) 10)
    ∷ test 2 (eqb (length s) (size (opcode s)))
    ∷ own

abbrev pub shared : Book → List ℕ → List Check → List Check
shared b s own = test 99 (sound b) ∷ formed s own

-- An order on the book: a refused command changes nothing. The merchant's payment is divided by the book's fee.
abbrev pub carried : Judged → Book → Order → Stepped
carried j b o = record { book = cond (passed j) o.book b; answer = charged b.setup.fee (answer j o.pays.customer o.pays.merchant) }

-- What the rules read of a book.
abbrev pub context_of : Book → Context
context_of b = record { id = b.id; clock = b.clock; setup = b.setup }

-- The two sides of an 02.
abbrev pub customer_of : List ℕ → Party
customer_of s = party (customer_key s) (customer_deposit s)

abbrev pub merchant_of : List ℕ → Party
merchant_of s = party (merchant_key s) (merchant_deposit s)

-- An opcode that is no channel's.
abbrev pub no_plan : Channel → Plan
no_plan ch = record { checks = test 1 false ∷ []; channel = ch; pays = pay 0 0 }

-- The verdict on the signature at a place, for a key and a message whose operands end at end.
unfoldable pub verdict : (List ℕ → List ℕ → List ℕ → Verdict) → List ℕ → List ℕ → List ℕ → ℕ → ℕ → Verdict
verdict check key id s end at = check key (message end id s) (signature at s)

module _ (check : List ℕ → List ℕ → List ℕ → Verdict) (hash : List ℕ → List ℕ) where
  -- The rules in the order of their opcodes, 00 to 0A, at the operands of a command. In 06 and 07 the merchant's signature is the first.
  abbrev pub plans : Context → List ℕ → Channel → List Plan
  plans at s ch =
      let customer = ch.customer.key in
      let merchant = ch.merchant.key in
      let first : ℕ → List ℕ → Verdict = λ op key. verdict check key at.id s (signatures op) (signatures op) in
      let second : ℕ → List ℕ → Verdict = λ op key. verdict check key at.id s (signatures op) (signatures op + 1452) in
      no_plan ch
      ∷ no_plan ch
      ∷ establish at (customer_of s) (merchant_of s) (delay s) ch
      ∷ fund_customer (amount s) ch
      ∷ fund_merchant (amount s) ch
      ∷ reclaim (first 5 customer) ch
      ∷ mutual_close (customer_part 6 s) (merchant_part 6 s) (first 6 merchant) (second 6 customer) ch
      ∷ customer_close at (lock s) (customer_part 7 s) (merchant_part 7 s) (first 7 merchant) (second 7 customer) ch
      ∷ merchant_close at (first 8 merchant) ch
      ∷ dispute at (hash (secret s)) (first 9 merchant) ch
      ∷ settle at ch
      ∷ []

  unfoldable pub plan : ℕ → Context → List ℕ → Channel → Plan
  plan op at s ch = get_or (plans at s ch) op (no_plan ch)

  abbrev pub planned : Book → List ℕ → Plan
  planned b s = plan (opcode s) (context_of b) s (channel b (place s))

  abbrev pub order : Book → List ℕ → Order
  order b s = cond (eqb (opcode s) 1) (set_clock b (time s)) (on_channel b (place s) (planned b s))

  unfoldable pub step : Book → List ℕ → Stepped
  step b s = carried (judge clean (shared b s (order b s).checks)) b (order b s)
