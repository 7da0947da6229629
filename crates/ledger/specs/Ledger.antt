-- Document 01, "What a closed channel paid" and the mission's third demand, with document 02, No. 1, No. 5, No. 7 and No. 8: its words, read from
-- the opening, the strings and their answers, and the one claim about the whole list.
use Rattle.std.specs.Prelude.{◌≡◌, Bool, true, false, cond, not, ◌&&◌, ◌||◌, List, [], ◌∷◌, ℕ, ◌+◌, ◌<◌, length, get_or, eqb, leb, ltb}
use Rattle.machine.specs.Format.{opcode, size, time, place, amount, customer_deposit, merchant_deposit, delay, customer_part, merchant_part, lock, merchant_key, secret, signatures, signature, message}
use Rattle.machine.specs.Book.{reading}
use Rattle.machine.specs.Opening.{Opening, answerable_by, opening}
use Rattle.machine.specs.Checks.{Verdict}
use Rattle.machine.specs.Rules.{delayed}
use Rattle.machine.specs.Fee.{fee_of}
use Rattle.machine.specs.Machine.{no_answer, step}
use Rattle.machine.specs.declared.state.Book.{Book}
use Rattle.machine.specs.declared.answers.Answer.{Answer}
use Rattle.machine.specs.declared.answers.Stepped.{Stepped}

-- ---- a history: byte strings and the answers to them, the last one first

pub record Entry : Type 0 where
  pub string : List ℕ
  pub answer : Answer

abbrev pub accepted : Entry → Bool
accepted e = eqb e.answer.refusal 0

-- 02 to 0A.
abbrev pub of_channel : List ℕ → Bool
of_channel s = leb 2 (opcode s) && leb (opcode s) 10

-- Clock: the time of the last accepted 01, 0 where there is none.
unfoldable pub clock : List Entry → ℕ
clock [] = 0
clock (e ∷ h) = cond (accepted e && eqb (opcode e.string) 1) (time e.string) (clock h)

-- An accepted string of a channel, its answer, and the clock at it.
pub record Event : Type 0 where
  pub string : List ℕ
  pub answer : Answer
  pub clock : ℕ

-- The strings of channel n: the accepted 02 to 0A that name n.
unfoldable pub strings : ℕ → List Entry → List Event
strings n [] = []
strings n (e ∷ h) =
    cond (accepted e && (of_channel e.string && eqb (place e.string) n)) (record { string = e.string; answer = e.answer; clock = clock h } ∷ strings n h) (strings n h)

-- A string that is no channel's: it was refused, or is no 02 to 0A, or names none of the 64.
abbrev pub of_none : Entry → Bool
of_none e = not (accepted e && (of_channel e.string && ltb (place e.string) 64))

-- The three kinds of payment: cents to each side, and the fee.
pub record Paid : Type 0 where
  pub customer : ℕ
  pub merchant : ℕ
  pub fee : ℕ

-- What an answer pays.
abbrev pub paid_by : Answer → Paid
paid_by a = record { customer = a.customer.0; merchant = a.merchant.0; fee = a.fee.0 }

abbrev pub nothing : Paid
nothing = record { customer = 0; merchant = 0; fee = 0 }

-- The figures of a split.
pub record Shares : Type 0 where
  pub customer : ℕ
  pub merchant : ℕ

-- In every split the merchant's figure is merchant plus fee.
abbrev pub shares : Paid → Shares
shares p = record { customer = p.customer; merchant = p.merchant + p.fee }

-- The entry at a place of a history; zeros past its end.
abbrev pub entry_at : List Entry → ℕ → Entry
entry_at h i = get_or h i (record { string = []; answer = no_answer })

-- ---- words about the strings of one channel

unfoldable pub sum : {A : Type 0} → (A → ℕ) → List A → ℕ
sum f [] = 0
sum f (x ∷ l) = f x + sum f l

abbrev pub deposit : Event → ℕ
deposit e = cond (eqb (opcode e.string) 3 || eqb (opcode e.string) 4) (amount e.string) 0

-- Deposits: the sum of the cents in its accepted 03 and 04.
abbrev pub deposits : List Event → ℕ
deposits l = sum deposit l

-- Paid to each side, and the fee: the sums of these fields in the answers.
abbrev pub paid : List Event → Paid
paid l = record {
  customer = sum (λ e. e.answer.customer.0) l;
  merchant = sum (λ e. e.answer.merchant.0) l;
  fee = sum (λ e. e.answer.fee.0) l;
}

-- Their opcodes: is there one, and how many are there?
unfoldable pub opcodes : List Event → List ℕ
opcodes [] = []
opcodes (e ∷ l) = opcode e.string ∷ opcodes l

unfoldable pub member : ℕ → List ℕ → Bool
member k [] = false
member k (x ∷ l) = eqb x k || member k l

unfoldable pub tally : ℕ → List ℕ → ℕ
tally k [] = 0
tally k (x ∷ l) = cond (eqb x k) 1 0 + tally k l

abbrev pub has : ℕ → List Event → Bool
has k l = member k (opcodes l)

abbrev pub count : ℕ → List Event → ℕ
count k l = tally k (opcodes l)

-- The string with this opcode: the claim says that there is at most one.
abbrev pub no_event : Event
no_event = record { string = []; answer = no_answer; clock = 0 }

unfoldable pub event_of : ℕ → List Event → Event
event_of k [] = no_event
event_of k (e ∷ l) = cond (eqb (opcode e.string) k) e (event_of k l)

-- Closed: an accepted 05, 06, 09 or 0A.
abbrev pub closed : List Event → Bool
closed l = has 5 l || has 6 l || has 9 l || has 10 l

abbrev pub closings : List Event → ℕ
closings l = count 5 l + count 6 l + count 9 l + count 10 l

-- D_c and T of the accepted 02; its delay, with 0 read as the default that the opening gave.
abbrev pub agreed_customer : List Event → ℕ
agreed_customer l = customer_deposit (event_of 2 l).string

abbrev pub agreed_total : List Event → ℕ
agreed_total l = customer_deposit (event_of 2 l).string + merchant_deposit (event_of 2 l).string

abbrev pub agreed_delay : Opening → List Event → ℕ
agreed_delay o l = delayed o.settings.delay (delay (event_of 2 l).string)

-- c and b of the accepted 06 or 07.
abbrev pub parts : ℕ → List Event → Shares
parts op l = record { customer = customer_part op (event_of op l).string; merchant = merchant_part op (event_of op l).string }

abbrev pub all_merchant : List Event → Shares
all_merchant l = record { customer = 0; merchant = agreed_total l }

-- 05: D_c, 0. 06: c, b. 07 then 0A: c, b. 07 then 09: 0, T. 08 then 0A: 0, T. A 07 that answers an 08 counts as 07.
abbrev pub split : List Event → Shares
split l =
    cond (has 5 l) (record { customer = agreed_customer l; merchant = 0 })
    (cond (has 6 l) (parts 6 l)
    (cond (has 7 l && has 10 l) (parts 7 l)
    (cond (has 7 l && has 9 l) (all_merchant l)
    (cond (has 8 l && has 10 l) (all_merchant l)
    (shares nothing)))))

-- Of a payment to the merchant, his part and the fee together, the fee is the whole part of r ten-thousandths.
abbrev pub Divided : ℕ → Paid → Type 0
Divided r p = p.fee ≡ fee_of r (shares p).merchant

-- A customer's closing is before its deadline, moved by the dates that the opening gave: an accepted 07, no accepted 09 or 0A, and the clock
-- after the list is early.
pub record Timely (o : Opening) (l : List Event) (now : ℕ) : Type 0 where
  pub closing : has 7 l ≡ true
  pub undisputed : has 9 l ≡ false
  pub unsettled : has 10 l ≡ false
  pub early : now < answerable_by o ((event_of 7 l).clock + agreed_delay o l)

-- The commands of one side's closing that the merchant signs.
abbrev pub one_sided : List ℕ
one_sided = 7 ∷ 8 ∷ 9 ∷ []

-- A 09 whose leaf differs from that of the accepted 07 and, where there is one, of the accepted 08: `leaf` tells, by the opcode, the leaf of the
-- merchant's signature in a string.
pub record Unspent (leaf : ℕ → List ℕ → ℕ) (l : List Event) (d : List ℕ) : Type 0 where
  pub of_07 : leaf 9 d ≡ leaf 7 (event_of 7 l).string → ⊥
  pub of_08 : has 8 l ≡ true → leaf 9 d ≡ leaf 8 (event_of 8 l).string → ⊥

-- ---- the claim

-- The book and the history so far.
pub record Standing : Type 0 where
  pub book : Book
  pub history : List Entry

abbrev pub recorded : Standing → List ℕ → Stepped → Standing
recorded t s r = record { book = r.book; history = record { string = s; answer = r.answer } ∷ t.history }

module _ (check : List ℕ → List ℕ → List ℕ → Verdict) where
  -- What the signature check says of the merchant's signature in a string with this opcode, for his key in n's 02 and the signed message of
  -- the string, with the id from the opening; and the leaf that it hands back.
  abbrev pub by_merchant : Opening → List Event → ℕ → List ℕ → Verdict
  by_merchant o l op s = check (merchant_key (event_of 2 l).string) (message (signatures op) o.id s) (signature (signatures op) s)

  abbrev pub leaf_of : Opening → List Event → ℕ → List ℕ → ℕ
  leaf_of o l op s = (by_merchant o l op s).leaf

module _ (check : List ℕ → List ℕ → List ℕ → Verdict) (hash : List ℕ → List ℕ) where
  -- A list of strings, each on the book that the one before left.
  unfoldable pub after : Standing → List (List ℕ) → Standing
  after t [] = t
  after t (s ∷ l) = after (recorded t s (step check hash t.book s)) l

  -- The dispute: a 09 of whole length that names n; its secret hashes to the lock, the signature check says yes to its signature, and its
  -- leaf is not that of the 07 or the 08.
  pub record Disputes (o : Opening) (n : ℕ) (l : List Event) (d : List ℕ) : Type 0 where
    pub code : opcode d ≡ 9
    pub whole : length d ≡ size 9
    pub named : place d ≡ n
    pub opens : hash (secret d) ≡ lock (event_of 7 l).string
    pub good : (by_merchant check o l 9 d).good ≡ true
    pub unspent : Unspent (leaf_of check o l) l d

  -- Of channel n of a book with this opening and history, where l are the strings of n.
  pub record Accounted (o : Opening) (b : Book) (h : List Entry) (n : ℕ) (l : List Event) : Type 0 where
    pub read : (reading b n).refusal ≡ 0
    pub conserved : deposits l ≡ (reading b n).held.0 + (paid l).customer + (paid l).merchant + (paid l).fee
    pub closes : closed l ≡ eqb (reading b n).status 6
    pub splits : closed l ≡ true → shares (paid l) ≡ split l
    pub disputed : has 9 l ≡ true → shares (paid l) ≡ all_merchant l
    -- each payment to the merchant is divided by itself, by the fee that the opening gave
    pub divided : (i : ℕ) → i < length h → Divided o.settings.fee (paid_by (entry_at h i).answer)
    pub elsewhere : (i : ℕ) → i < length h → of_none (entry_at h i) ≡ true → paid_by (entry_at h i).answer ≡ nothing
    pub dispute : Timely o l (clock h) → (d : List ℕ) → Disputes o n l d → (step check hash b d).answer.refusal ≡ 0
    pub leaf_once : has 9 l ≡ true → Unspent (leaf_of check o l) l (event_of 9 l).string
    -- its words are well said: no string without a 02, no 09 without a 07, each command at most once, one of 06 and 07, one that closes; and
    -- the merchant's signature in a 07, 08 and 09 is good, so its leaf is the one that signed
    pub begun : (k : ℕ) → has k l ≡ true → has 2 l ≡ true
    pub follows : has 9 l ≡ true → has 7 l ≡ true
    pub signed : (k : ℕ) → member k one_sided ≡ true → has k l ≡ true → (by_merchant check o l k (event_of k l).string).good ≡ true
    pub once : (k : ℕ) → count k l < 2
    pub parted : count 6 l + count 7 l < 2
    pub single : closings l < 2

  -- After every list given to a book just opened.
  abbrev pub ThirdDemand : Type 0
  ThirdDemand =
      (lent : Book) (o : Opening) → (opening lent o).refusal ≡ 0 → (l : List (List ℕ)) (n : ℕ) → n < 64 → let t = after (record { book = (opening lent o).book; history = [] }) l in Accounted o t.book t.history n (strings n t.history)
