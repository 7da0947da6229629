-- Entries there and back: what was written is read, and what is read was written.
use Prim.Native.Nat.{ℕ, zero, suc, ◌+◌, ◌*◌, ◌≤◌}
use native.Mathlib.Nat.{mod-eq_of_lt}
use native.Mathlib.Omega.{arith}
use mathlib.Core.Path.{◌≡◌, refl, sym, ap, ◌∙◌}
use mathlib.Core.Bool.{Bool, true, false, not, ◌&&◌}
use mathlib.Core.List.{List, [], ◌∷◌, ◌++◌, map}
use borrow.Author.Tests.{leb-true, le-leb, eqb-true, not-true}
use lib.Dec.{eqb, leb}
use lib.ListN.{length, take, drop, get_or, length-append, length-drop, take-append-drop}
use lib.Seq.{take_at, drop_at, get_or_at, drop-cons, take-suc, take_all, length-take-le}
use Rattle.wire.specs.Numbers.{bytes, u16_at}
use Rattle.wire.proofs.Laws.{both, and_both, and_make}
use Rattle.wire.specs.Parts.{all}
use Rattle.payments.specs.declared.lists.Payment.{Payment}
use Rattle.payments.specs.Payments.{payment, is_party, listed, payment_of}
use Rattle.payments.specs.Packed.{digits, spelled, joined, halves, packed, entry, written, parted, amount_halves, amount_in, payment_in, is_digit, is_packed, good}
use Rattle.payments.specs.Answers.{writable}
use Rattle.payments.proofs.Digits.{digits_length, digits_are, spelled_digits, spelled_below, digits_spelled, joined_halves, halves_all, halves_joined}
use Rattle.payments.proofs.Listing.{entry_length}

-- ---- tests that said yes

party_two : (p : ℕ) → is_party p ≡ true → p ≤ 2
party_two p h = go (eqb p 1) refl
  where
    go : (x : Bool) → eqb p 1 ≡ x → p ≤ 2
    go true e = let k = eqb-true p 1 e in omega arith
    go false e = let k = eqb-true p 2 (rw e at h) in omega arith

pub record Writable (p : Payment) : Type 0 where
  pub party : is_party p.party ≡ true
  pub channel : p.channel ≤ 63
  pub some : eqb p.amount.0 0 ≡ false
  pub few : p.amount.0 ≤ 999999999999999

is_writable : (p : Payment) → writable p ≡ true → Writable p
unfolding writable
is_writable p h =
    let a = and_both (is_party p.party && leb p.channel 63 && not (eqb p.amount.0 0)) _ h in
    let b = and_both (is_party p.party && leb p.channel 63) _ a.0 in
    let c = and_both (is_party p.party) _ b.0 in
    record { party = c.0; channel = leb-true p.channel 63 c.1; some = not-true _ b.1; few = leb-true p.amount.0 999999999999999 a.1 }

pub record Good (e : List ℕ) : Type 0 where
  pub party : is_party (get_or e 0 0) ≡ true
  pub channel : u16_at e 1 ≤ 63
  pub digits_all : all is_digit (take 15 (amount_halves e)) ≡ true
  pub closed : get_or (amount_halves e) 15 0 ≡ 0xC
  pub some : eqb (amount_in e) 0 ≡ false

is_good : (e : List ℕ) → good e ≡ true → Good e
unfolding good is_packed
is_good e h =
    let a = and_both (is_party (get_or e 0 0) && leb (u16_at e 1) 63 && is_packed e) _ h in
    let b = and_both (is_party (get_or e 0 0) && leb (u16_at e 1) 63) _ a.0 in
    let c = and_both (is_party (get_or e 0 0)) _ b.0 in
    let d = and_both (all is_digit (take 15 (amount_halves e))) _ b.1 in
    record { party = c.0; channel = leb-true (u16_at e 1) 63 c.1; digits_all = d.0; closed = eqb-true _ _ d.1; some = not-true _ a.1 }

-- ---- an entry that was written

module _ (p : Payment) (w : Writable p) where
  abbrev amount : ℕ
  amount = p.amount.0

  -- The half bytes of its amount.
  halved : amount_halves (entry p) ≡ digits 15 amount ++ (0xC ∷ [])
  unfolding entry bytes packed
  halved = halves_joined 8 (digits 15 amount ++ (0xC ∷ [])) (length-append (digits 15 amount) (0xC ∷ []) ∙ ap (λ (n : ℕ). n + 1) (digits_length 15 amount)) (halves_all (digits 15 amount) (digits_are 15 amount))

  first_15 : take 15 (amount_halves (entry p)) ≡ digits 15 amount
  first_15 = ap (take 15) halved ∙ take_at (digits 15 amount) (0xC ∷ []) 15 (digits_length 15 amount)

  amount_back : amount_in (entry p) ≡ amount
  unfolding amount_in
  amount_back = ap spelled first_15 ∙ spelled_digits 15 amount ∙ mod-eq_of_lt (omega (arith, w.few))

  party_back : get_or (entry p) 0 0 ≡ p.party
  unfolding entry bytes
  party_back = let two = party_two p.party w.party in omega arith

  channel_back : u16_at (entry p) 1 ≡ p.channel
  unfolding entry bytes u16_at
  channel_back = omega (arith, w.channel)

  pub payment_back : payment_in (entry p) ≡ p
  unfolding payment_in
  payment_back = λ i. payment (party_back i) (channel_back i) (amount_back i)

  packed_good : is_packed (entry p) ≡ true
  unfolding is_packed
  packed_good =
      and_make (ap (all is_digit) first_15 ∙ digits_are 15 amount)
      (ap (λ (l : List ℕ). eqb (get_or l 15 0) 0xC) halved ∙ ap (λ (x : ℕ). eqb x 0xC) (get_or_at (digits 15 amount) 0xC [] 0 15 (digits_length 15 amount)))

  pub entry_good : good (entry p) ≡ true
  unfolding good
  entry_good =
      and_make (and_make (and_make (ap is_party party_back ∙ w.party) (ap (λ (x : ℕ). leb x 63) channel_back ∙ le-leb p.channel 63 w.channel)) packed_good)
      (ap (λ (x : ℕ). not (eqb x 0)) amount_back ∙ ap not w.some)

-- ---- an entry that is read

module _ (e : List ℕ) (n : length e ≡ 11) (g : Good e) where
  abbrev hs : List ℕ
  hs = amount_halves e

  abbrev ds : List ℕ
  ds = take 15 hs

  bytes_8 : length (drop 3 e) ≡ 8
  bytes_8 = length-drop 3 e ∙ omega arith

  halves_length : (bs : List ℕ) → length (halves bs) ≡ 2 * length bs
  unfolding halves
  halves_length [] = refl
  halves_length (b ∷ bs) = omega (arith, halves_length bs)

  halves_16 : length hs ≡ 16
  halves_16 = omega (arith, halves_length (drop 3 e), bytes_8)

  digits_15 : length ds ≡ 15
  digits_15 = length-take-le 15 hs (omega (arith, halves_16))

  -- Fifteen digits, and C.
  closes : hs ≡ ds ++ (0xC ∷ [])
  closes = sym (take_all 16 hs (omega (arith, halves_16))) ∙ take-suc hs 15 0 (omega (arith, halves_16)) ∙ ap (λ (x : ℕ). ds ++ (x ∷ [])) g.closed

  packed_back : packed (amount_in e) ≡ drop 3 e
  unfolding packed amount_in
  packed_back =
      let d : digits 15 (spelled ds) ≡ ds = rw digits_15 at (digits_spelled ds g.digits_all) in
      ap (λ (l : List ℕ). joined (l ++ (0xC ∷ []))) d ∙ ap joined (sym closes) ∙ joined_halves (drop 3 e)

  few_enough : amount_in e ≤ 999999999999999
  unfolding amount_in
  few_enough = let b = rw digits_15 at (spelled_below ds g.digits_all) in omega (arith, b)

  three_bytes : e ≡ get_or e 0 0 ∷ get_or e 1 0 ∷ get_or e 2 0 ∷ drop 3 e
  three_bytes =
      drop-cons e 0 0 (omega arith)
      ∙ ap (λ (l : List ℕ). get_or e 0 0 ∷ l) (drop-cons e 1 0 (omega arith) ∙ ap (λ (l : List ℕ). get_or e 1 0 ∷ l) (drop-cons e 2 0 (omega arith)))

  pub entry_back : entry (payment_in e) ≡ e
  unfolding entry payment_in bytes u16_at
  entry_back =
      let two = party_two (get_or e 0 0) g.party in
      let c = g.channel in
      both (omega arith) (both (omega arith) (both (omega arith) packed_back)) ∙ sym three_bytes

  pub read_writable : writable (payment_in e) ≡ true
  unfolding writable payment_in
  read_writable = and_make (and_make (and_make g.party (le-leb (u16_at e 1) 63 g.channel)) (ap not g.some)) (le-leb (amount_in e) 999999999999999 few_enough)

-- ---- lists of entries

pub parted_written : (l : List Payment) → parted (length l) (written l) ≡ map entry l
unfolding written parted
parted_written [] = refl
parted_written (p ∷ l) =
    λ i. take_at (entry p) (written l) 11 (entry_length p) i ∷ (ap (parted (length l)) (drop_at (entry p) (written l) 11 (entry_length p)) ∙ parted_written l) i

pub all_back : (l : List Payment) → all writable l ≡ true → (all good (map entry l) ≡ true) × (map payment_in (map entry l) ≡ l)
all_back [] h = (refl, refl)
all_back (p ∷ l) h =
    let k = and_both (writable p) (all writable l) h in
    let w = is_writable p k.0 in
    let r = all_back l k.1 in
    (and_make (entry_good p w) r.0, λ i. payment_back p w i ∷ r.1 i)

-- A byte string of good entries is the one that is written for their payments, and these can be written.
pub all_written : (n : ℕ) (x : List ℕ) → length x ≡ 11 * n → all good (parted n x) ≡ true
    → (written (map payment_in (parted n x)) ≡ x) × (all writable (map payment_in (parted n x)) ≡ true)
unfolding written parted
all_written zero [] e h = (refl, refl)
all_written zero (b ∷ x) e h = absurd (omega arith)
all_written (suc n) x e h =
    let k = and_both (good (take 11 x)) (all good (parted n (drop 11 x))) h in
    let g = is_good (take 11 x) k.0 in
    let m : length (take 11 x) ≡ 11 = length-take-le 11 x (omega arith) in
    let r = all_written n (drop 11 x) (length-drop 11 x ∙ omega arith) k.1 in
    (ap (λ (l : List ℕ). l ++ written (map payment_in (parted n (drop 11 x)))) (entry_back (take 11 x) m g) ∙ ap (λ (l : List ℕ). take 11 x ++ l) r.0 ∙ take-append-drop 11 x, and_make (read_writable (take 11 x) m g) r.1)

-- A list of payments, as a lent list holds it, and back.
pub listed_back : (l : List Payment) → map payment_of (map listed l) ≡ l
unfolding listed payment_of
listed_back [] = refl
listed_back (p ∷ l) = ap (λ (r : List Payment). p ∷ r) (listed_back l)
