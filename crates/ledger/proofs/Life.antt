-- The life of one channel, the invariant of the third demand: what its strings say of its record, by status.
use mathlib.Core.Path.{◌≡◌}
use mathlib.Core.Bool.{Bool, true, false, cond, not, ◌&&◌, ◌||◌}
use mathlib.Core.List.{List, [], ◌∷◌}
use Prim.Native.Nat.{ℕ, ◌+◌, ◌≤◌, ◌<◌}
use lib.ListN.{get_or}
use Rattle.machine.specs.Format.{customer_deposit, merchant_deposit, delay, customer_part, merchant_part, lock, merchant_key}
use Rattle.machine.specs.Book.{limit, shortest, longest, agreed}
use Rattle.machine.specs.Rules.{delayed, answerable_at}
use Rattle.ledger.specs.Ledger.{Event, deposits, member, has, event_of, closed, closings, shares, paid, all_merchant, split, one_sided, Unspent}
use Rattle.machine.specs.declared.state.Channel.{Channel}
use Rattle.machine.specs.declared.state.Setup.{Setup}

-- ---- opcodes that have not come

abbrev pub Lacks : List ℕ → List Event → Type 0
Lacks ks l = (k : ℕ) → member k ks ≡ true → has k l ≡ false

-- What has not come in status 5; in 4 nor a 07, in 3 nor an 08, in 2 nor a 04, in 1 nor a 03.
abbrev pub unclosed : List ℕ
unclosed = 5 ∷ 6 ∷ 9 ∷ 10 ∷ []

abbrev pub unanswered : List ℕ
unanswered = 7 ∷ unclosed

abbrev pub running : List ℕ
running = 8 ∷ unanswered

abbrev pub unmatched : List ℕ
unmatched = 4 ∷ running

abbrev pub unfunded : List ℕ
unfunded = 3 ∷ unmatched

-- ---- what the strings say of the record

-- What they are read by: what the book keeps of its opening, and of a signature, by key, opcode and string, whether it is good and its leaf.
pub record Basis : Type 0 where
  pub setup : Setup
  pub good : List ℕ → ℕ → List ℕ → Bool
  pub leaf : List ℕ → ℕ → List ℕ → ℕ

-- The leaf of the merchant's signature in a string, for his key in the accepted 02.
abbrev pub leaf_in : Basis → List Event → ℕ → List ℕ → ℕ
leaf_in x l = x.leaf (merchant_key (event_of 2 l).string)

-- The merchant's signature in each 07, 08 and 09 is good.
abbrev pub Signed : (List ℕ → ℕ → List ℕ → Bool) → List Event → Type 0
Signed good l = (k : ℕ) → member k one_sided ≡ true → has k l ≡ true → good (merchant_key (event_of 2 l).string) k (event_of k l).string ≡ true

-- It has the terms of the accepted 02, by what the book keeps of its opening, and they are in range.
pub record Terms (x : Basis) (made : Bool) (s : List ℕ) (first second wait : ℕ) (key : List ℕ) : Type 0 where
  pub there : made ≡ true
  pub customer : first ≡ customer_deposit s
  pub merchant : second ≡ merchant_deposit s
  pub delays : wait ≡ delayed x.setup.delay (delay s)
  pub signer : key ≡ merchant_key s
  pub fits : first + second ≤ limit
  pub least : shortest ≤ wait
  pub most : wait ≤ longest

abbrev pub TermsOf : Basis → List Event → Channel → Type 0
TermsOf x l c = Terms x (has 2 l) (event_of 2 l).string c.customer.deposit.0 c.merchant.deposit.0 c.delay c.merchant.key

-- What came in, and what was paid to each side, to the merchant with the fee.
pub record Money (l : List Event) (in' customer merchant : ℕ) : Type 0 where
  pub deposited : deposits l ≡ in'
  pub to_customer : (shares (paid l)).customer ≡ customer
  pub to_merchant : (shares (paid l)).merchant ≡ merchant

-- It keeps what the accepted 07 says.
pub record Closing (x : Basis) (e : Event) (kept total deadline wait : ℕ) (locked : List ℕ) : Type 0 where
  pub part : kept ≡ customer_part 7 e.string
  pub whole : kept + merchant_part 7 e.string ≡ total
  pub lock' : locked ≡ lock e.string
  pub due : deadline ≡ answerable_at x.setup (e.clock + wait)

abbrev pub ClosingOf : Basis → List Event → Channel → Type 0
ClosingOf x l c = Closing x (event_of 7 l) c.kept.0 (agreed c) c.deadline.0 c.delay c.lock

-- It remembers the leaf of the accepted 08, or of the 07 where there is none, and that of the 07.
pub record Remembers (leaf : ℕ → List ℕ → ℕ) (l : List Event) (first second : ℕ) : Type 0 where
  pub of_08 : first ≡ cond (has 8 l) (leaf 8 (event_of 8 l).string) (leaf 7 (event_of 7 l).string)
  pub of_07 : second ≡ leaf 7 (event_of 7 l).string

abbrev pub RemembersOf : Basis → List Event → Channel → Type 0
RemembersOf x l c = Remembers (leaf_in x l) l c.leaves.first c.leaves.second

-- In status 1, 2 and 3, and in 4 with its 08: the terms hold, deposits came in, nothing is paid.
pub record Live (x : Basis) (lacking : List ℕ) (in' : ℕ) (l : List Event) (c : Channel) : Type 0 where
  pub terms : TermsOf x l c
  pub lacks : Lacks lacking l
  pub money : Money l in' 0 0

-- In status 4: the merchant is closing.
pub record Waiting (x : Basis) (l : List Event) (c : Channel) : Type 0 where
  pub live : Live x unanswered (agreed c) l c
  pub begun : has 8 l ≡ true
  pub leaf : c.leaves.first ≡ leaf_in x l 8 (event_of 8 l).string
  pub signed : Signed x.good l

-- In status 5: the customer is closing, b is paid and c is kept.
pub record Leaving (x : Basis) (l : List Event) (c : Channel) : Type 0 where
  pub terms : TermsOf x l c
  pub lacks : Lacks unclosed l
  pub begun : has 7 l ≡ true
  pub closing : ClosingOf x l c
  pub leaves : RemembersOf x l c
  pub signed : Signed x.good l
  pub money : Money l (agreed c) 0 (merchant_part 7 (event_of 7 l).string)

-- In status 6: the deposits are paid out by the split of the way of closing.
pub record Over (x : Basis) (l : List Event) (c : Channel) : Type 0 where
  pub terms : TermsOf x l c
  pub ended : closed l ≡ true
  pub single : closings l < 2
  pub left : (has 7 l && not (has 9 l || has 10 l)) ≡ false
  pub even : deposits l ≡ (shares (paid l)).customer + (shares (paid l)).merchant
  pub splits : shares (paid l) ≡ split l
  pub disputed : has 9 l ≡ true → shares (paid l) ≡ all_merchant l
  pub leaf_once : has 9 l ≡ true → Unspent (leaf_in x l) l (event_of 9 l).string
  pub follows : has 9 l ≡ true → has 7 l ≡ true
  pub signed : Signed x.good l
  pub either : (has 6 l && has 7 l) ≡ false

-- The invariant by status, 0 to 6.
abbrev pub StageAt : Basis → List Event → Channel → ℕ → Type 0
StageAt x l c status =
    get_or ((l ≡ []) ∷ Live x unfunded 0 l c ∷ Live x unmatched c.customer.deposit.0 l c ∷ Live x running (agreed c) l c ∷ Waiting x l c ∷ Leaving x l c ∷ Over x l c ∷ []) status ⊥

abbrev pub Stage : Basis → List Event → Channel → Type 0
Stage x l c = StageAt x l c c.status
