-- Document 01, "Wrong turns that look natural", and other sentences of documents 01 and 02 that are easy to misread, said of every book,
-- opening, channel and command.
use Rattle.std.specs.Prelude.{◌≡◌, Bool, true, false, ◌&&◌, List, [], ◌∷◌, map, ℕ, suc, ◌+◌, ◌≤◌, ◌<◌, ltb, length, get_or}
use Rattle.calendar.specs.Calendar.{numbered, is_date, day_number}
use Rattle.calendar.specs.Days as Days
use Rattle.calendar.specs.Lists.{all_dates}
use Rattle.lms.specs.Layout.{typed_key}
use Rattle.machine.specs.Format.{opcode}
use Rattle.machine.specs.Book.{cents, seconds, limit, layout, mark_of, total, leaves, sound, no_reading, read_channel, reading}
use Rattle.machine.specs.Checks.{Verdict, Check, number_of}
use Rattle.machine.specs.Opening.{Opened, Opening, answerable_by, fresh, opening}
use Rattle.machine.specs.Due.{none, due}
use Rattle.machine.specs.Fee.{fee_of}
use Rattle.machine.specs.Rules.{Payment, Plan, keyed, delay_fits, answerable_at, establish, fund_customer, fund_merchant, reclaim, mutual_close, customer_close, merchant_close, dispute, settle}
use Rattle.machine.specs.Machine.{ruling, formed, order, step}
use Rattle.machine.specs.declared.state.Party.{Party}
use Rattle.machine.specs.declared.state.Channel.{Channel}
use Rattle.machine.specs.declared.state.Setup.{Setup}
use Rattle.machine.specs.declared.state.Context.{Context}
use Rattle.machine.specs.declared.state.Book.{Book}
use Rattle.machine.specs.declared.answers.Answer.{Answer}

abbrev pub refusal : ℕ → ℕ → Answer
refusal r steps = record { customer = cents 0; merchant = cents 0; steps = steps; refusal = r; fee = cents 0 }

-- What a rule answers on a channel, before the fee.
abbrev pub answered : Channel → Plan → Answer
answered ch p = (ruling ch p).answer

-- Checks stand in the order of their numbers.
abbrev pub rising : ℕ → List Check → Bool
rising n [] = true
rising n (k ∷ l) = ltb n (number_of k) && rising (number_of k) l

-- Of two keys of the right types: those that differ anywhere pass check 6, and equal ones do not.
pub record Keys (at : Context) (customer merchant : Party) (d : ℕ) (ch : Channel) : Type 0 where
  pub differ : (i : ℕ) → (get_or customer.key i 0 ≡ get_or merchant.key i 0 → ⊥) → (answered ch (establish at customer merchant d ch)).refusal ≡ 6 → ⊥
  pub equal : customer.key ≡ merchant.key → answered ch (establish at customer merchant d ch) ≡ refusal 6 0

-- What a 02 does not name stays. A delay of 0 is stored as the book's default, any other as it is. Where D_c is 0 the merchant is awaited at
-- once, else the customer, also where D_b is 0.
pub record Establishes (at : Context) (customer merchant : Party) (ch : Channel) : Type 0 where
  pub default : (establish at customer merchant 0 ch).channel.delay ≡ at.setup.delay
  pub delay : (d : ℕ) → (d ≡ 0 → ⊥) → (establish at customer merchant d ch).channel.delay ≡ d
  pub awaits_merchant : (d : ℕ) → customer.deposit.0 ≡ 0 → (establish at customer merchant d ch).channel.status ≡ 2
  pub awaits_customer : (d : ℕ) → (customer.deposit.0 ≡ 0 → ⊥) → (establish at customer merchant d ch).channel.status ≡ 1
  pub deadline : (d : ℕ) → (establish at customer merchant d ch).channel.deadline ≡ ch.deadline
  pub kept : (d : ℕ) → (establish at customer merchant d ch).channel.kept ≡ ch.kept
  pub lock : (d : ℕ) → (establish at customer merchant d ch).channel.lock ≡ ch.lock
  pub leaves : (d : ℕ) → (establish at customer merchant d ch).channel.leaves ≡ ch.leaves

-- A 02 that passes all checks before 8: refused with 8 where both deposits are 0 or their sum is above 2^63 - 1, else accepted.
pub record Deposits (at : Context) (customer merchant : Party) (d : ℕ) (ch : Channel) : Type 0 where
  pub none : customer.deposit.0 ≡ 0 → merchant.deposit.0 ≡ 0 → answered ch (establish at customer merchant d ch) ≡ refusal 8 0
  pub large : limit < customer.deposit.0 + merchant.deposit.0 → answered ch (establish at customer merchant d ch) ≡ refusal 8 0
  pub some : 1 ≤ customer.deposit.0 + merchant.deposit.0 → customer.deposit.0 + merchant.deposit.0 ≤ limit → answered ch (establish at customer merchant d ch) ≡ refusal 0 0

-- The merchant's leaf of an 08 is remembered alone, and so is that of a 07 that answers none; a 07 that answers an 08 keeps the 08's beside its
-- own. No other command remembers a leaf, or forgets one.
pub record RemembersLeaves (at : Context) (v w : Verdict) (ch : Channel) : Type 0 where
  pub merchant_closes : (merchant_close at v ch).channel.leaves ≡ leaves v.leaf v.leaf
  pub customer_closes : (lock : List ℕ) (c b : ℕ) → ch.status ≡ 3 → (customer_close at lock c b v w ch).channel.leaves ≡ leaves v.leaf v.leaf
  pub customer_answers : (lock : List ℕ) (c b : ℕ) → ch.status ≡ 4 → (customer_close at lock c b v w ch).channel.leaves ≡ leaves ch.leaves.first v.leaf
  pub customer_funds : (cents : ℕ) → (fund_customer cents ch).channel.leaves ≡ ch.leaves
  pub merchant_funds : (cents : ℕ) → (fund_merchant cents ch).channel.leaves ≡ ch.leaves
  pub reclaims : (reclaim v ch).channel.leaves ≡ ch.leaves
  pub agrees : (c b : ℕ) → (mutual_close c b v w ch).channel.leaves ≡ ch.leaves
  pub disputes : (hashed : List ℕ) → (dispute at hashed v ch).channel.leaves ≡ ch.leaves
  pub settles : (settle at ch).channel.leaves ≡ ch.leaves

-- A dispute in time whose hash is the lock: a bad signature is refused with 11, whatever leaf its verdict has; a good one with 16 where its
-- leaf is remembered, and its chain steps count; else it pays the kept part.
pub record DisputesByLeaf (at : Context) (hashed : List ℕ) (v : Verdict) (ch : Channel) : Type 0 where
  pub bad : v.good ≡ false → answered ch (dispute at hashed v ch) ≡ refusal 11 v.steps
  pub first : v.good ≡ true → v.leaf ≡ ch.leaves.first → answered ch (dispute at hashed v ch) ≡ refusal 16 v.steps
  pub second : v.good ≡ true → v.leaf ≡ ch.leaves.second → answered ch (dispute at hashed v ch) ≡ refusal 16 v.steps
  pub other : v.good ≡ true → (v.leaf ≡ ch.leaves.first → ⊥) → (v.leaf ≡ ch.leaves.second → ⊥)
      → answered ch (dispute at hashed v ch) ≡ record { customer = cents 0; merchant = ch.kept; steps = v.steps; refusal = 0; fee = cents 0 }

abbrev pub not_opened : Book → ℕ → Opened
not_opened lent r = record { book = lent; refusal = r }

abbrev pub opened : Opening → Opened
opened o = record { book = fresh o; refusal = 0 }

-- An opening whose id, default and fee are good. A date that does not exist, wherever it stands in the list and however long that is, is told
-- before more than 64 dates or a pair that does not rise; without a list the dates are not looked at.
pub record OpensDated (lent : Book) (o : Opening) : Type 0 where
  pub no_date : o.settings.dated ≡ true → (i : ℕ) → i < length o.dates → is_date (get_or o.dates i 0) ≡ false → opening lent o ≡ not_opened lent 21
  pub many : o.settings.dated ≡ true → all_dates o.dates ≡ true → 64 < length o.dates → opening lent o ≡ not_opened lent 22
  pub falls : o.settings.dated ≡ true → all_dates o.dates ≡ true → (i : ℕ) → suc i < length o.dates → day_number (get_or o.dates (suc i) 0) ≤ day_number (get_or o.dates i 0)
      → opening lent o ≡ not_opened lent 22
  pub listed : o.settings.dated ≡ true → all_dates o.dates ≡ true → length o.dates ≤ 64 → Days.rising (map day_number o.dates) ≡ true → opening lent o ≡ opened o
  pub no_list : o.settings.dated ≡ false → opening lent o ≡ opened o

-- The id is looked at before the default, the default before the fee, and the fee before the dates. Refused, an opening keeps the lent book;
-- accepted, the book keeps the default and the fee that were given, and moves a deadline by the dates that were given.
pub record Opens (lent : Book) (o : Opening) : Type 0 where
  pub id_first : (length o.id ≡ 16 → ⊥) → opening lent o ≡ not_opened lent 2
  pub short : length o.id ≡ 16 → o.settings.delay < 3600 → opening lent o ≡ not_opened lent 14
  pub long : length o.id ≡ 16 → 2592000 < o.settings.delay → opening lent o ≡ not_opened lent 14
  pub dear : length o.id ≡ 16 → 3600 ≤ o.settings.delay → o.settings.delay ≤ 2592000 → 1000 < o.settings.fee → opening lent o ≡ not_opened lent 20
  pub dates : length o.id ≡ 16 → 3600 ≤ o.settings.delay → o.settings.delay ≤ 2592000 → o.settings.fee ≤ 1000 → OpensDated lent o
  pub default : (fresh o).setup.delay ≡ o.settings.delay
  pub fee : (fresh o).setup.fee ≡ o.settings.fee
  pub moves : (t : ℕ) → answerable_at (fresh o).setup t ≡ answerable_by o t

-- The customer has all that a rule pays him. The merchant's payment is divided by itself: the fee, and the rest to him.
pub record Divides (r : ℕ) (p : Payment) (a : Answer) : Type 0 where
  pub customer : a.customer ≡ p.customer
  pub fee : a.fee.0 ≡ fee_of r p.merchant.0
  pub whole : a.merchant.0 + a.fee.0 ≡ p.merchant.0

module _ (check : List ℕ → List ℕ → List ℕ → Verdict) (hash : List ℕ → List ℕ) where
  -- An unsound book says 99 before everything, also to the empty string; it is read as 99, and none of it is due.
  pub record Unsound (b : Book) : Type 0 where
    pub answers : (s : List ℕ) → step check hash b s ≡ record { book = b; answer = refusal 99 0 }
    pub reads : (n : ℕ) → reading b n ≡ no_reading 99
    pub names : due b ≡ none

  pub record WrongTurns : Type 0 where
    pub unsound : (b : Book) → sound b ≡ false → Unsound b
    -- A book of another layout is unsound, and so is one whose default, fee or dates are out of range. The deadlines
    -- of a book without a list do not look at its days.
    pub other_layout : (b : Book) (n : ℕ) → b.mark ≡ mark_of n → (n ≡ layout → ⊥) → Unsound b
    pub short_default : (b : Book) → b.setup.delay < 3600 → Unsound b
    pub long_default : (b : Book) → 2592000 < b.setup.delay → Unsound b
    pub dear_fee : (b : Book) → 1000 < b.setup.fee → Unsound b
    pub other_flag : (b : Book) → 1 < b.setup.dated → Unsound b
    pub many_days : (b : Book) → 64 < b.setup.count → Unsound b
    pub late_day : (b : Book) (i : ℕ) → i < b.setup.count → i < length b.setup.days → numbered ≤ get_or b.setup.days i 0 → Unsound b
    pub falling_days : (b : Book) (i : ℕ) → suc i < b.setup.count → suc i < length b.setup.days → get_or b.setup.days (suc i) 0 ≤ get_or b.setup.days i 0 → Unsound b
    pub unlisted : (s : Setup) (t : ℕ) → s.dated ≡ 0 → answerable_at s t ≡ t
    pub opens : (lent : Book) (o : Opening) → Opens lent o
    -- A refused command pays 0, 0 and 0 and changes no value of the book.
    pub refused : (b : Book) (s : List ℕ) → ((step check hash b s).answer.refusal ≡ 0 → ⊥)
        → step check hash b s ≡ record { book = b; answer = refusal (step check hash b s).answer.refusal (step check hash b s).answer.steps }
    pub divides : (b : Book) (s : List ℕ) → (step check hash b s).answer.refusal ≡ 0 → Divides b.setup.fee (order check hash b s).pays (step check hash b s).answer
    -- T is 0 in status 0, whatever the fields hold.
    pub unused : (ch : Channel) → ch.status ≡ 0 → (read_channel ch).total ≡ cents 0
    pub establishes : (at : Context) (customer merchant : Party) (ch : Channel) → Establishes at customer merchant ch
    -- 05 is refused with 12, never 11, and counts the failing check.
    pub reclaims : (v : Verdict) (ch : Channel) → v.good ≡ false → ch.status ≡ 2 → answered ch (reclaim v ch) ≡ refusal 12 v.steps
    -- Without a closing a channel is not settled, whatever its deadline; without the customer's it has no lock to compare with a secret.
    pub unclosed_settled : (at : Context) (ch : Channel) → (ch.status ≡ 4 → ⊥) → (ch.status ≡ 5 → ⊥) → answered ch (settle at ch) ≡ refusal 5 0
    pub unclosed_disputed : (at : Context) (hashed : List ℕ) (v : Verdict) (ch : Channel) → (ch.status ≡ 5 → ⊥) → answered ch (dispute at hashed v ch) ≡ refusal 5 0
    -- A dispute in time whose hash is not the lock is refused with 10, and its signature is not looked at.
    pub lock_differs : (at : Context) (hashed : List ℕ) (v : Verdict) (ch : Channel) → ch.status ≡ 5 → at.clock.0 < ch.deadline.0 → (hashed ≡ ch.lock → ⊥) → answered ch (dispute at hashed v ch) ≡ refusal 10 0
    pub remembers : (at : Context) (v w : Verdict) (ch : Channel) → RemembersLeaves at v w ch
    pub by_leaf : (at : Context) (hashed : List ℕ) (v : Verdict) (ch : Channel) → ch.status ≡ 5 → at.clock.0 < ch.deadline.0 → hashed ≡ ch.lock → DisputesByLeaf at hashed v ch
    -- A 07 that answers in time, with the right parts and good signatures, is accepted whatever its leaf.
    pub answers_any : (at : Context) (c b : ℕ) (lock : List ℕ) (v w : Verdict) (ch : Channel) → ch.status ≡ 4 → at.clock.0 < ch.deadline.0 → c + b ≡ total ch → v.good ≡ true → w.good ≡ true
        → (answered ch (customer_close at lock c b v w ch)).refusal ≡ 0
    -- A 02 whose delay is out of range is refused with 7, whatever its deposits.
    pub delay_first : (at : Context) (customer merchant : Party) (d : ℕ) (ch : Channel) → ch.status ≡ 0 → keyed customer.key merchant.key ≡ true → delay_fits d ≡ false → answered ch (establish at customer merchant d ch) ≡ refusal 7 0
    pub deposits : (at : Context) (customer merchant : Party) (d : ℕ) (ch : Channel) → ch.status ≡ 0 → keyed customer.key merchant.key ≡ true → delay_fits d ≡ true → Deposits at customer merchant d ch
    pub keys : (at : Context) (customer merchant : Party) (d : ℕ) (ch : Channel) → ch.status ≡ 0 → typed_key customer.key ≡ true → typed_key merchant.key ≡ true → Keys at customer merchant d ch
    -- The checks of every command stand in the paper's order, 1 and 2 first.
    pub ordered : (b : Book) (s : List ℕ) → 1 ≤ opcode s → opcode s ≤ 10 → rising 0 (formed s (order check hash b s).checks) ≡ true
    -- Every closing has a deadline of its own, moved, an answering 07 too.
    pub merchant_closes : (at : Context) (v : Verdict) (ch : Channel) → (merchant_close at v ch).channel.deadline ≡ seconds (answerable_at at.setup (at.clock.0 + ch.delay))
    pub answers : (at : Context) (c b : ℕ) (lock : List ℕ) (v w : Verdict) (ch : Channel) → (customer_close at lock c b v w ch).channel.deadline ≡ seconds (answerable_at at.setup (at.clock.0 + ch.delay))
