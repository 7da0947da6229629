-- The step in the parts that the code takes: the checks that all commands share, then a command of the clock or of a channel.
use mathlib.Core.Path.{◌≡◌, refl, ap, sym, ◌∙◌}
use mathlib.Core.Bool.{Bool, true, false, cond, ◌&&◌}
use mathlib.Core.List.{List, [], ◌∷◌}
use Prim.Native.Nat.{ℕ, zero, suc, ◌≤◌, ◌<◌}
use native.Mathlib.Omega.{arith}
use lib.ListN.{length}
use lib.Seq.{set-get_or}
use lib.Dec.{eqb, leb, ltb}
use borrow.Author.Tests.{eq-eqb, ne_eqb, eqb-false, leb-false, lt-ltb, le-ltb}
use Rattle.std.specs.List.{slice_get}
use Rattle.std.specs.Option.{unwrap_or}
use Rattle.std.proofs.lemmas.List.{get_or_past}
use Rattle.machine.specs.Format.{opcode, size, time, place}
use Rattle.machine.specs.Book.{cents, seconds, sound, channel, with_channel, with_clock, no_channel}
use Rattle.machine.specs.Checks.{Verdict, test, clean, passed, ask, judge}
use Rattle.machine.specs.Fee.{charged}
use Rattle.machine.specs.Rules.{Plan}
use Rattle.machine.specs.Machine.{answer, concluded, ruling, shared, Order, carried, set_clock, on_channel, planned, order, step}
use Rattle.machine.specs.Answered.{Judged, Ruled}
use Rattle.machine.specs.Outcomes.{opcode_number, refused_answer}
use Rattle.machine.specs.declared.numbers.Opcode.{Opcode}
use Rattle.command.specs.Parts.{Clocked, clocked}
use Rattle.machine.specs.declared.units.Cents.{Cents}
use Rattle.machine.specs.declared.state.Channel.{Channel}
use Rattle.machine.specs.declared.state.Book.{Book}
use Rattle.machine.specs.declared.answers.Answer.{Answer}
use Rattle.machine.proofs.Judging.{judge_stop}
use Rattle.machine.proofs.Fees.{free}

is_clean : (j : Judged) → j.refusal ≡ 0 → j.steps ≡ 0 → j ≡ clean
is_clean j r s = ap (λ (n : ℕ). record { refusal = n; steps = j.steps }) r ∙ ap (λ (n : ℕ). record { refusal = 0; steps = n }) s

answer_no : (j : Judged) (c m : Cents) → (j.refusal ≡ 0 → ⊥) → answer j c m ≡ answer j (cents 0) (cents 0)
unfolding answer
answer_no j c m h = rw (ne_eqb _ _ h)

-- A refused rule writes back what stood there.
write_cond : (b : Book) (n : ℕ) (ch : Channel) (x : Bool) → with_channel b n (cond x ch (channel b n)) ≡ cond x (with_channel b n ch) b
write_cond b n ch true = refl
write_cond b n ch false = ap (λ (l : List Channel). record { mark = b.mark; id = b.id; setup = b.setup; clock = b.clock; channels = l }) (set-get_or b.channels n no_channel)

-- A refused 01 leaves the clock that stood there.
clock_cond : (b : Book) (t : ℕ) (x : Bool) → ◌≡◌ {A = Book} (record { mark = b.mark; id = b.id; setup = b.setup; clock = cond x (seconds t) b.clock; channels = b.channels }) (cond x (with_clock b t) b)
clock_cond b t true = refl
clock_cond b t false = refl

-- An answer that pays nothing has no fee.
unpaid : (r : ℕ) (j : Judged) → charged r (answer j (cents 0) (cents 0)) ≡ answer j (cents 0) (cents 0)
unfolding answer
unpaid r j = free r (answer j (cents 0) (cents 0)) (go (passed j)) refl
  where
    go : (x : Bool) → cond x (cents 0) (cents 0) ≡ cents 0
    go true = refl
    go false = refl

-- An order that is refused.
carried_stops : (j : Judged) (b : Book) (o : Order) → (j.refusal ≡ 0 → ⊥) → record { book = b; answer = answer j (cents 0) (cents 0) } ≡ carried j b o
carried_stops j b o h = rw (ne_eqb _ _ h, answer_no j o.pays.customer o.pays.merchant h, unpaid b.setup.fee j)

-- The first byte, as the code takes it.
pub first_byte : (s : List ℕ) → unwrap_or (slice_get s 0) 0 ≡ opcode s
first_byte [] = refl
first_byte (x ∷ s) = refl

-- An opcode is in the range of check 1, and its command is long enough for a channel's number.
pub in_range : (op : Opcode) → (leb 1 (opcode_number op) && leb (opcode_number op) 10) ≡ true
in_range Opcode.Clock = refl
in_range Opcode.Establish = refl
in_range Opcode.FundCustomer = refl
in_range Opcode.FundMerchant = refl
in_range Opcode.Reclaim = refl
in_range Opcode.MutualClose = refl
in_range Opcode.CustomerClose = refl
in_range Opcode.MerchantClose = refl
in_range Opcode.Dispute = refl
in_range Opcode.Settle = refl

-- A byte that is no opcode has no length.
pub no_size : (op : ℕ) → (leb 1 op && leb op 10) ≡ false → 0 ≡ size op
unfolding size
no_size zero h = refl
no_size (suc op) h = sym (get_or_past (0 ∷ 9 ∷ 135 ∷ 11 ∷ 11 ∷ 1455 ∷ 2923 ∷ 2955 ∷ 1455 ∷ 1487 ∷ 3 ∷ []) (suc op) 0 (leb-false (suc op) 10 (low (leb 1 (suc op)) refl h)))
  where
    low : (x : Bool) → leb 1 (suc op) ≡ x → (x && leb (suc op) 10) ≡ false → leb (suc op) 10 ≡ false
    low true e h = h
    low false e h = let z = leb-false 1 (suc op) e in absurd (omega (arith, z))

pub least : (op : Opcode) → 3 ≤ size (opcode_number op)
unfolding size
least Opcode.Clock = omega arith
least Opcode.Establish = omega arith
least Opcode.FundCustomer = omega arith
least Opcode.FundMerchant = omega arith
least Opcode.Reclaim = omega arith
least Opcode.MutualClose = omega arith
least Opcode.CustomerClose = omega arith
least Opcode.MerchantClose = omega arith
least Opcode.Dispute = omega arith
least Opcode.Settle = omega arith

module _ (check : List ℕ → List ℕ → List ℕ → Verdict) (hash : List ℕ → List ℕ) (b : Book) (s : List ℕ) (j : Judged) (e : j ≡ judge clean (shared b s [])) where
  step_is : (o : Order) (i : Judged) → order check hash b s ≡ o → judge j o.checks ≡ i → carried i b o ≡ step check hash b s
  unfolding step
  step_is o i p q =
      ap (λ (x : Judged). carried x b o) (sym q) ∙ ap (λ (x : Order). carried (judge j x.checks) b x) (sym p)
      ∙ ap (λ (x : Judged). carried (judge x (order check hash b s).checks) b (order check hash b s)) e

  pub step_stops : (j.refusal ≡ 0 → ⊥) → record { book = b; answer = answer j (cents 0) (cents 0) } ≡ step check hash b s
  step_stops h =
      let o = order check hash b s in
      carried_stops j b o h ∙ step_is o j refl (judge_stop o.checks j h)

  module _ (h : j.refusal ≡ 0) (k : j.steps ≡ 0) where
    pub step_clock : opcode s ≡ 1 → (d : Clocked) → d ≡ clocked b.clock (time s) → record { book = record { mark = b.mark; id = b.id; setup = b.setup; clock = d.clock; channels = b.channels }; answer = d.answer } ≡ step check hash b s
    step_clock o d q =
        let i = judge clean (set_clock b (time s)).checks in
        ap (λ (x : Clocked). record { book = record { mark = b.mark; id = b.id; setup = b.setup; clock = x.clock; channels = b.channels }; answer = x.answer }) q
        ∙ ap (λ (x : Book). record { book = x; answer = (clocked b.clock (time s)).answer }) (clock_cond b (time s) (passed i))
        ∙ ap (λ (a : Answer). record { book = cond (passed i) (with_clock b (time s)) b; answer = a }) (sym (unpaid b.setup.fee i))
        ∙ step_is (set_clock b (time s)) i (rw (eq-eqb _ _ o)) (ap (λ (x : Judged). judge x (set_clock b (time s)).checks) (is_clean j h k))

    module _ (o : opcode s ≡ 1 → ⊥) where
      abbrev p : Plan
      p = planned check hash b s

      fourth : (t : Bool) → ltb (place s) 64 ≡ t → judge j (on_channel b (place s) p).checks ≡ judge (ask clean (test 4 t)) p.checks
      fourth t q = ap (λ (x : Judged). judge (ask x (test 4 (ltb (place s) 64))) p.checks) (is_clean j h k) ∙ ap (λ (x : Bool). judge (ask clean (test 4 x)) p.checks) q

      pub step_far : 64 ≤ place s → (c : Judged) → c ≡ ask j (test 4 false) → record { book = b; answer = answer c (cents 0) (cents 0) } ≡ step check hash b s
      unfolding ask
      step_far n c q =
          let z : Judged = record { refusal = 4; steps = 0 } in
          let e : c ≡ z = q ∙ ap (λ (x : Judged). ask x (test 4 false)) (is_clean j h k) in
          ap (λ (x : Judged). record { book = b; answer = answer x (cents 0) (cents 0) }) e
          ∙ carried_stops z b (on_channel b (place s) p) (eqb-false 4 0 refl)
          ∙ step_is (on_channel b (place s) p) z (rw (ne_eqb _ _ o)) (fourth false (le-ltb _ _ n) ∙ judge_stop p.checks z (eqb-false 4 0 refl))

      pub step_channel : place s < 64 → (r : Ruled) → r ≡ ruling (channel b (place s)) p → record { book = with_channel b (place s) r.channel; answer = charged b.setup.fee r.answer } ≡ step check hash b s
      unfolding ask ruling concluded
      step_channel n r q =
          let i = judge clean p.checks in
          ap (λ (x : Ruled). record { book = with_channel b (place s) x.channel; answer = charged b.setup.fee x.answer }) q
          ∙ ap (λ (x : Book). record { book = x; answer = charged b.setup.fee (answer i p.pays.customer p.pays.merchant) }) (write_cond b (place s) p.channel (passed i))
          ∙ step_is (on_channel b (place s) p) i (rw (ne_eqb _ _ o)) (fourth true (lt-ltb _ _ n))

-- The checks that all commands share, as the code makes them.
module _ (check : List ℕ → List ℕ → List ℕ → Verdict) (hash : List ℕ → List ℕ) (b : Book) (s : List ℕ) where
  pub unsound : sound b ≡ false → record { book = b; answer = refused_answer 99 0 } ≡ step check hash b s
  unfolding ask answer
  unsound h = step_stops check hash b s (record { refusal = 99; steps = 0 }) (rw h) (eqb-false 99 0 refl)

  pub unnamed : sound b ≡ true → (leb 1 (opcode s) && leb (opcode s) 10) ≡ false → record { book = b; answer = refused_answer 1 0 } ≡ step check hash b s
  unfolding ask answer
  unnamed h o = step_stops check hash b s (record { refusal = 1; steps = 0 }) (rw (h, o)) (eqb-false 1 0 refl)

  pub unsized : sound b ≡ true → (leb 1 (opcode s) && leb (opcode s) 10) ≡ true → eqb (length s) (size (opcode s)) ≡ false → record { book = b; answer = refused_answer 2 0 } ≡ step check hash b s
  unfolding ask answer
  unsized h o l = step_stops check hash b s (record { refusal = 2; steps = 0 }) (rw (h, o, l)) (eqb-false 2 0 refl)

  all_pass : sound b ≡ true → (op : Opcode) → opcode_number op ≡ opcode s → length s ≡ size (opcode_number op) → clean ≡ judge clean (shared b s [])
  unfolding ask
  all_pass h op o l = rw (h, ← o, in_range op, eq-eqb _ _ l)

  module _ (h : sound b ≡ true) (op : Opcode) (o : opcode_number op ≡ opcode s) (l : length s ≡ size (opcode_number op)) where
    pub clock_step : opcode_number op ≡ 1 → (d : Clocked) → d ≡ clocked b.clock (time s) → record { book = record { mark = b.mark; id = b.id; setup = b.setup; clock = d.clock; channels = b.channels }; answer = d.answer } ≡ step check hash b s
    clock_step q = step_clock check hash b s clean (all_pass h op o l) refl refl (sym o ∙ q)

    module _ (n : opcode_number op ≡ 1 → ⊥) where
      pub far_step : 64 ≤ place s → record { book = b; answer = refused_answer 4 0 } ≡ step check hash b s
      unfolding ask answer
      far_step f = step_far check hash b s clean (all_pass h op o l) refl refl (λ q. n (o ∙ q)) f (record { refusal = 4; steps = 0 }) refl

      pub channel_step : place s < 64 → (r : Ruled) → r ≡ ruling (channel b (place s)) (planned check hash b s) → record { book = with_channel b (place s) r.channel; answer = charged b.setup.fee r.answer } ≡ step check hash b s
      channel_step = step_channel check hash b s clean (all_pass h op o l) refl refl (λ q. n (o ∙ q))

      pub refused_step : place s < 64 → (r steps : ℕ) → record { channel = channel b (place s); answer = refused_answer r steps } ≡ ruling (channel b (place s)) (planned check hash b s) → record { book = b; answer = refused_answer r steps } ≡ step check hash b s
      refused_step m r steps e =
          let ch = channel b (place s) in
          ap (λ (x : Book). record { book = x; answer = refused_answer r steps }) (sym (write_cond b (place s) ch false))
          ∙ ap (λ (a : Answer). record { book = with_channel b (place s) ch; answer = a }) (sym (free b.setup.fee (refused_answer r steps) refl refl))
          ∙ channel_step m (record { channel = ch; answer = refused_answer r steps }) e
