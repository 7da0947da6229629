-- What is collected from a run adds up to what its answers paid: `CollectedAddsUp`.
use Prim.Native.Nat.{ℕ, suc, ◌+◌}
use native.Mathlib.Nat.{add-zero, zero-add, add_assoc}
use native.Mathlib.Omega.{arith}
use mathlib.Core.Path.{◌≡◌, refl, sym, ap, ◌∙◌}
use mathlib.Core.Bool.{Bool, true, false, cond, ◌&&◌}
use mathlib.Core.List.{List, [], ◌∷◌, ◌++◌}
use borrow.Author.Tests.{eq-eqb, eqb-true, eqb-false, le-leb}
use lib.Dec.{eqb}
use lib.ListN.{length}
use lib.Seq.{get_or-take}
use Rattle.wire.proofs.Laws.{and_make}
use Rattle.sha256.specs.Digest.{sha256}
use Rattle.machine.specs.Format.{opcode, place}
use Rattle.machine.specs.Opening.{opening}
use Rattle.machine.specs.Rules.{pay}
use Rattle.machine.specs.Rules.{Payment as Pays}
use Rattle.machine.specs.Machine.{order}
use Rattle.machine.specs.Real.{lms_verdict, real_step}
use Rattle.ledger.specs.Ledger.{Entry, Event, Shares, accepted, of_channel, sum, paid, strings, clock}
use Rattle.machine.specs.declared.units.Cents.{Cents}
use Rattle.machine.specs.declared.state.Book.{Book}
use Rattle.machine.specs.declared.answers.Answer.{Answer}
use Rattle.machine.specs.declared.answers.Stepped.{Stepped}
use Rattle.machine.proofs.RightTurns.{right_turns}
use Rattle.payments.specs.declared.lists.Payment.{Payment}
use Rattle.payments.specs.Payments.{payment}
use Rattle.journal.specs.Runs.{next_of, turned_of, run_of}
use Rattle.journal.specs.Divided.{divided, told}
use Rattle.journal.specs.declared.lines.Line.{Line}
use Rattle.journal.specs.Calls.{Call, called}
use Rattle.journal.proofs.Called.{journal_demand}
use Rattle.journal.proofs.Turning.{fits, ahead, command, line, rest, with_lines, Claim, AtStop, AtTurn, by_turns}
use Rattle.bank.specs.Collected.{above, paid_in, collected}
use Rattle.bank.specs.AddsUp.{paid_to, paid_to_in, Sides, CollectedAddsUp, ClosedSplit}
use Rattle.bank.proofs.Commands.{Known, known, collected_stop, collected_go}

-- ---- sums

sum_append : {A : Type 0} (f : A → ℕ) (xs ys : List A) → sum f (xs ++ ys) ≡ sum f xs + sum f ys
unfolding sum
sum_append f [] ys = sym (zero-add _)
sum_append f (x ∷ xs) ys = ap (λ (n : ℕ). f x + n) (sum_append f xs ys) ∙ sym (add_assoc (f x) (sum f xs) (sum f ys))

-- A payment of nothing adds nothing.
sum_above : (f : Payment → ℕ) (p : Payment) → (p.amount.0 ≡ 0 → f p ≡ 0) → sum f (above p) ≡ f p
unfolding sum above
sum_above f p h = go (eqb p.amount.0 0) refl
  where
    go : (x : Bool) → eqb p.amount.0 0 ≡ x → sum f (cond x [] (p ∷ [])) ≡ f p
    go true e = sym (h (eqb-true p.amount.0 0 e))
    go false e = add-zero (f p)

-- ---- what an answer pays

module _ (b : Book) (s : List ℕ) where
  abbrev said : Answer
  said = (real_step b s).answer

  -- A refused command pays nothing.
  refused_pays : (said.refusal ≡ 0 → ⊥) → (said.customer.0 ≡ 0) × (said.merchant.0 ≡ 0)
  refused_pays h =
      let e = (right_turns lms_verdict sha256).refused b s h in
      (ap (λ (r : Stepped). r.answer.customer.0) e, ap (λ (r : Stepped). r.answer.merchant.0) e)

  -- 01 pays nothing.
  clock_pays : opcode s ≡ 1 → (said.customer.0 ≡ 0) × (said.merchant.0 ≡ 0)
  clock_pays e = go (eqb said.refusal 0) refl
    where
      ordered : (order lms_verdict sha256 b s).pays ≡ pay 0 0
      ordered = rw (eq-eqb (opcode s) 1 e)

      go : (x : Bool) → eqb said.refusal 0 ≡ x → (said.customer.0 ≡ 0) × (said.merchant.0 ≡ 0)
      go true z =
          let d = (right_turns lms_verdict sha256).divides b s (eqb-true _ _ z) in
          (ap (λ (x : Cents). x.0) d.customer ∙ ap (λ (p : Pays). p.customer.0) ordered, omega (arith, d.whole, ap (λ (p : Pays). p.merchant.0) ordered))
      go false z = refused_pays (eqb-false _ _ z)

-- A command's payments, by weight.
paid_sum : (f : Payment → ℕ) (s : List ℕ) (l : Line) → let c = payment 1 (place s) l.answer.customer.0 in let m = payment 2 (place s) l.answer.merchant.0 in
    (c.amount.0 ≡ 0 → f c ≡ 0) → (m.amount.0 ≡ 0 → f m ≡ 0) → sum f (paid_in s l) ≡ cond (eqb (opcode s) 1) 0 (f c + f m)
unfolding paid_in sum
paid_sum f s l g h = go (eqb (opcode s) 1)
  where
    c : Payment
    c = payment 1 (place s) l.answer.customer.0

    m : Payment
    m = payment 2 (place s) l.answer.merchant.0

    go : (x : Bool) → sum f (cond x [] (above c ++ above m)) ≡ cond x 0 (f c + f m)
    go true = refl
    go false = sum_append f (above c) (above m) ∙ λ i. sum_above f c g i + sum_above f m h i

-- ---- a history and what is collected beside it

abbrev entry_of : Book → List ℕ → Entry
entry_of b s = record { string = s; answer = (real_step b s).answer }

abbrev line_of : Book → List ℕ → Line
line_of b s = record { answer = (real_step b s).answer }

-- A number H of histories to which each entry adds w, and which each command's payments add too.
module _ (H : List Entry → ℕ) (w : Entry → ℕ) (f : Payment → ℕ) (adds : (e : Entry) (h : List Entry) → H (e ∷ h) ≡ w e + H h)
    (pays : (b : Book) (s : List ℕ) → Known (opcode s) → sum f (paid_in s (line_of b s)) ≡ w (entry_of b s)) where
  swapped : (x y z : ℕ) → x + (y + z) ≡ y + x + z
  swapped x y z = omega arith

  abbrev Tells : Claim
  Tells b cs ls l d = (h : List Entry) → H (told h l d.lines) ≡ sum f (collected cs d.lines) + H h

  tells_stopped : AtStop Tells
  unfolding told sum
  tells_stopped b cs ls g h = rw (collected_stop cs ls g) (sym (zero-add (H h)))

  tells_turned : AtTurn Tells
  unfolding told turned_of
  tells_turned b cs l ls m d g r h =
      let s = command cs ls in
      let x : next_of cs (suc (length d.lines)) ≡ ahead cs ls = with_lines cs (length d.lines) (length ls) in
      let c = rw x at (collected_go cs (line cs ls b) d.lines (rw x g)) in
      let o : opcode s ≡ opcode cs = get_or-take (ahead cs ls).size cs 0 0 ((fits cs (suc (length ls))).some g) in
      let k : Known (opcode s) = rw o (known cs (suc (length ls)) g) in
      r (entry_of b s ∷ h)
      ∙ rw (c, adds (entry_of b s) h, sum_append f (paid_in s (line_of b s)) (collected (rest cs ls) d.lines), pays b s k) (swapped (sum f (collected (rest cs ls) d.lines)) (w (entry_of b s)) (H h))

  pub tells : (b : Book) (cs : List ℕ) (ls : List Line) → Tells b cs ls (divided (length ls) cs) (run_of b cs ls)
  tells b cs ls = by_turns Tells tells_stopped tells_turned b cs ls

-- ---- each side, in all and in one channel

module _ (b : Book) (s : List ℕ) (k : Known (opcode s)) where
  abbrev pays_customer : ℕ
  pays_customer = (real_step b s).answer.customer.0

  abbrev pays_merchant : ℕ
  pays_merchant = (real_step b s).answer.merchant.0

  -- What 01 pays, by its line, is nothing.
  but_01 : (n : ℕ) → (opcode s ≡ 1 → n ≡ 0) → cond (eqb (opcode s) 1) 0 n ≡ n
  but_01 n h = go (eqb (opcode s) 1) refl
    where
      go : (x : Bool) → eqb (opcode s) 1 ≡ x → cond x 0 n ≡ n
      go true e = sym (h (eqb-true (opcode s) 1 e))
      go false e = refl

  all_customer : sum (paid_to 1) (paid_in s (line_of b s)) ≡ pays_customer
  all_customer = paid_sum (paid_to 1) s (line_of b s) (λ e. e) (λ _. refl) ∙ but_01 (pays_customer + 0) (λ e. add-zero _ ∙ (clock_pays b s e).0) ∙ add-zero pays_customer

  all_merchant : sum (paid_to 2) (paid_in s (line_of b s)) ≡ pays_merchant
  all_merchant = paid_sum (paid_to 2) s (line_of b s) (λ _. refl) (λ e. e) ∙ but_01 (0 + pays_merchant) (λ e. zero-add _ ∙ (clock_pays b s e).1) ∙ zero-add pays_merchant

  -- One side of an answer in channel n, where a refused command pays it nothing.
  module _ (n c : ℕ) (free : ((real_step b s).answer.refusal ≡ 0 → ⊥) → c ≡ 0) where
    abbrev here : Bool
    here = eqb (place s) n

    ours : (eqb (opcode s) 1 ≡ false) → of_channel s ≡ true
    ours e = let o = eqb-false (opcode s) 1 e in and_make (le-leb 2 (opcode s) (omega (arith, k.first))) (le-leb (opcode s) 10 k.last)

    none_here : (y : Bool) → ◌≡◌ {A = ℕ} (cond y 0 0) 0
    none_here true = refl
    none_here false = refl

    in_channel : cond (eqb (opcode s) 1) 0 (cond here c 0) ≡ cond (accepted (entry_of b s) && (of_channel s && here)) c 0
    in_channel = go (eqb (opcode s) 1) (accepted (entry_of b s)) refl refl
      where
        go : (x a : Bool) → eqb (opcode s) 1 ≡ x → accepted (entry_of b s) ≡ a → cond x 0 (cond here c 0) ≡ cond (a && (of_channel s && here)) c 0
        go true true e q = rw (eqb-true (opcode s) 1 e)
        go true false e q = refl
        go false true e q = rw (ours e)
        go false false e q = rw (free (eqb-false _ _ q)) (none_here here)

  -- A payment of nothing is nothing in any channel, and the other side's is nothing.
  nothing_in : (y : Bool) (c : ℕ) → c ≡ 0 → cond y c 0 ≡ 0
  nothing_in true c e = e
  nothing_in false c e = refl

  first_in : (y : Bool) (c : ℕ) → cond y c 0 + cond y 0 0 ≡ cond y c 0
  first_in true c = add-zero c
  first_in false c = refl

  second_in : (y : Bool) (c : ℕ) → cond y 0 0 + cond y c 0 ≡ cond y c 0
  second_in true c = zero-add c
  second_in false c = refl

  module _ (n : ℕ) where
    each_customer : sum (paid_to_in n 1) (paid_in s (line_of b s)) ≡ cond (accepted (entry_of b s) && (of_channel s && eqb (place s) n)) pays_customer 0
    each_customer =
        paid_sum (paid_to_in n 1) s (line_of b s) (nothing_in (eqb (place s) n) pays_customer) (λ _. nothing_in (eqb (place s) n) 0 refl)
        ∙ ap (λ (x : ℕ). cond (eqb (opcode s) 1) 0 x) (first_in (eqb (place s) n) pays_customer) ∙ in_channel n pays_customer (λ h. (refused_pays b s h).0)

    each_merchant : sum (paid_to_in n 2) (paid_in s (line_of b s)) ≡ cond (accepted (entry_of b s) && (of_channel s && eqb (place s) n)) pays_merchant 0
    each_merchant =
        paid_sum (paid_to_in n 2) s (line_of b s) (λ _. nothing_in (eqb (place s) n) 0 refl) (nothing_in (eqb (place s) n) pays_merchant)
        ∙ ap (λ (x : ℕ). cond (eqb (opcode s) 1) 0 x) (second_in (eqb (place s) n) pays_merchant) ∙ in_channel n pays_merchant (λ h. (refused_pays b s h).1)

-- ---- the claim

-- What an entry adds to the sum over the strings of n.
string_adds : (g : Answer → ℕ) (n : ℕ) (e : Entry) (h : List Entry)
    → sum (λ v. g v.answer) (strings n (e ∷ h)) ≡ cond (accepted e && (of_channel e.string && eqb (place e.string) n)) (g e.answer) 0 + sum (λ v. g v.answer) (strings n h)
unfolding strings sum
string_adds g n e h = go (accepted e && (of_channel e.string && eqb (place e.string) n))
  where
    go : (x : Bool) → sum (λ (v : Event). g v.answer) (cond x (record { string = e.string; answer = e.answer; clock = clock h } ∷ strings n h) (strings n h)) ≡ cond x (g e.answer) 0 + sum (λ (v : Event). g v.answer) (strings n h)
    go true = refl
    go false = sym (zero-add _)

abbrev customer : Answer → ℕ
customer a = a.customer.0

abbrev merchant : Answer → ℕ
merchant a = a.merchant.0

module _ (b : Book) (cs : List ℕ) (ls : List Line) where
  abbrev payments : List Payment
  payments = collected cs (run_of b cs ls).lines

  abbrev history : List Entry
  history = told [] (divided (length ls) cs) (run_of b cs ls).lines

  module _ (g : Answer → ℕ) (f : Payment → ℕ) where
    all_told : ((a : Book) (s : List ℕ) → Known (opcode s) → sum f (paid_in s (line_of a s)) ≡ g (real_step a s).answer) → sum f payments ≡ sum (λ e. g e.answer) history
    unfolding sum
    all_told h = sym (tells (sum (λ (e : Entry). g e.answer)) (λ e. g e.answer) f (λ e l. refl) h b cs ls [] ∙ add-zero _)

    each_told : (n : ℕ) → ((a : Book) (s : List ℕ) → Known (opcode s) → sum f (paid_in s (line_of a s)) ≡ cond (accepted (entry_of a s) && (of_channel s && eqb (place s) n)) (g (real_step a s).answer) 0)
        → sum f payments ≡ sum (λ v. g v.answer) (strings n history)
    unfolding sum strings
    each_told n h =
        sym (tells (λ l. sum (λ (v : Event). g v.answer) (strings n l)) (λ e. cond (accepted e && (of_channel e.string && eqb (place e.string) n)) (g e.answer) 0) f (string_adds g n) h b cs ls [] ∙ add-zero _)

pub collected_adds_up : CollectedAddsUp
collected_adds_up b cs ls = record {
  all = λ i. record { customer = all_told b cs ls customer (paid_to 1) all_customer i; merchant = all_told b cs ls merchant (paid_to 2) all_merchant i };
  each = λ n i. record {
    customer = each_told b cs ls customer (paid_to_in n 1) n (λ a s k. each_customer a s k n) i;
    merchant = each_told b cs ls merchant (paid_to_in n 2) n (λ a s k. each_merchant a s k n) i;
  };
}

pub closed_split : ClosedSplit
unfolding called
closed_split lent o ok cs ls n h c =
    let e = (collected_adds_up (opening lent o).book cs ls).each n in
    let q = (journal_demand lent o ok (Call.run cs ls ∷ []) n h).splits c in
    record { customer = ap (λ (x : Sides). x.customer) e ∙ ap (λ (x : Shares). x.customer) q; merchant = ap (λ (x : Sides). x.merchant + (paid (strings n (history (opening lent o).book cs ls))).fee) e ∙ ap (λ (x : Shares). x.merchant) q }
