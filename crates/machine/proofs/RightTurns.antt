-- The sentences that are easy to misread hold.
use mathlib.Core.Path.{◌≡◌, refl, sym, ap, ◌∙◌}
use mathlib.Core.Bool.{Bool, true, false, cond, ◌&&◌, or-true, and-false}
use mathlib.Core.List.{List, [], ◌∷◌, map}
use Prim.Native.Nat.{ℕ, zero, suc, ◌+◌, ◌≤◌, ◌<◌}
use native.Mathlib.Nat.{sub-add_cancel}
use native.Mathlib.Omega.{arith}
use lib.Dec.{eqb, leb}
use lib.ListN.{length, get_or, drop, length-map, get_or-map}
use borrow.Author.Tests.{eq-eqb, ne_eqb, eqb-false, le-leb, lt-leb, lt-ltb}
use Rattle.calendar.specs.Calendar.{is_date, day_number}
use Rattle.calendar.specs.Days as Days
use Rattle.calendar.specs.Lists.{all_dates, in_order, sound_days}
use Rattle.calendar.proofs.Listing.{falling, too_many, too_late, not_rising}
use Rattle.lms.specs.Layout.{typed_key}
use Rattle.machine.specs.Format.{opcode, time, place}
use Rattle.wire.specs.Parts.{all}
use Rattle.machine.specs.Book.{limit, ranged, layout, mark_of, the_mark, sound_channel, sound_setup, sound, total, read_channel, reading, channel}
use Rattle.machine.specs.Checks.{Check, test, Verdict, clean, ask, judge}
use Rattle.machine.specs.Opening.{Opened, Opening, dates_of, fresh, opening}
use Rattle.machine.specs.Due.{due}
use Rattle.machine.specs.Fee.{charged}
use Rattle.machine.specs.Rules.{delayed, keyed, answerable_at, delay_fits, deposits_fit, establish, fund_customer, fund_merchant, reclaim, mutual_close, customer_close, merchant_close, dispute, settle}
use Rattle.machine.specs.Machine.{answer, concluded, ruling, Order, set_clock, on_channel, formed, shared, carried, context_of, no_plan, plans, plan, order, step}
use Rattle.machine.specs.WrongTurns.{refusal, answered, rising, Keys, DisputesByLeaf, not_opened, opened, OpensDated, Opens, Divides, Unsound, WrongTurns}
use Rattle.machine.specs.declared.state.Party.{Party}
use Rattle.machine.specs.declared.state.Channel.{Channel}
use Rattle.machine.specs.declared.state.Context.{Context}
use Rattle.machine.specs.declared.state.Book.{Book}
use Rattle.machine.specs.declared.answers.Answer.{Answer}
use Rattle.machine.specs.Answered.{Judged}
use Rattle.machine.specs.declared.answers.Stepped.{Stepped}
use Rattle.wire.proofs.Laws.{same_refl}
use Rattle.wire.proofs.Tested.{all_not}
use Rattle.machine.proofs.Laws.{and_middle, setup_limits, unlisted, opening_moves, sound_context, same_ne}
use Rattle.machine.proofs.Fees.{fee_below, free}
use Rattle.machine.proofs.Judging.{judge_stop}
use Rattle.machine.proofs.Plans.{each_plan}

-- A refused command has no fee.
carried_stops : (j : Judged) (b : Book) (o : Order) → (j.refusal ≡ 0 → ⊥) → carried j b o ≡ record { book = b; answer = refusal j.refusal j.steps }
unfolding answer
carried_stops j b o h = rw (ne_eqb _ _ h) (ap (λ (a : Answer). record { book = b; answer = a }) (free b.setup.fee (refusal j.refusal j.steps) refl refl))

-- The first of a list of checks says no.
first_no : (r : ℕ) (x : Bool) (l : List Check) (b : Book) (o : Order) → x ≡ false → (r ≡ 0 → ⊥) → carried (judge clean (test r x ∷ l)) b o ≡ record { book = b; answer = refusal r 0 }
unfolding ask
first_no r x l b o e h =
    let j : Judged = record { refusal = r; steps = 0 } in
    ap (λ (y : Bool). carried (judge (ask clean (test r y)) l) b o) e ∙ ap (λ (i : Judged). carried i b o) (judge_stop l j h) ∙ carried_stops j b o h

-- ---- what lies outside the range of delays

below_range : (d : ℕ) → d < 3600 → ranged d ≡ false
below_range d h = and_middle true (leb 3600 d) (leb d 2592000) (lt-leb _ _ h)

above_range : (d : ℕ) → 2592000 < d → ranged d ≡ false
above_range d h = go (leb 3600 d)
  where
    go : (x : Bool) → (x && leb d 2592000) ≡ false
    go true = lt-leb _ _ h
    go false = refl

-- ---- an opening

-- What an opening's checks make, by what each of them says.
abbrev made : Book → Opening → Bool → Bool → Bool → Bool → Bool → Opened
made lent o id default fee dates order =
    let j = judge clean (test 2 id ∷ test 14 default ∷ test 20 fee ∷ test 21 dates ∷ test 22 order ∷ []) in
    record { book = cond (eqb j.refusal 0) (fresh o) lent; refusal = j.refusal }

-- The id, the default and the fee are good.
module _ (lent : Book) (o : Opening) (e : length o.id ≡ 16) (h : 3600 ≤ o.settings.delay) (k : o.settings.delay ≤ 2592000) (f : o.settings.fee ≤ 1000) where
  judged : (x y : Bool) → all_dates (dates_of o) ≡ x → in_order (dates_of o) ≡ y → opening lent o ≡ cond x (cond y (opened o) (not_opened lent 22)) (not_opened lent 21)
  unfolding opening ask
  judged x y p q = rw (eq-eqb _ _ e, le-leb _ _ h, le-leb _ _ k, le-leb _ _ f, p, q) (go x y)
    where
      go : (x y : Bool) → made lent o true true true x y ≡ cond x (cond y (opened o) (not_opened lent 22)) (not_opened lent 21)
      go true true = refl
      go true false = refl
      go false y = refl

  unordered : (i : ℕ) → suc i < length o.dates → day_number (get_or o.dates (suc i) 0) ≤ day_number (get_or o.dates i 0) → in_order o.dates ≡ false
  unfolding day_number
  unordered i n b =
      let m : suc i < length (map day_number o.dates) = rw (length-map o.dates day_number) n in
      let at : (j : ℕ) → get_or (map day_number o.dates) j 0 ≡ day_number (get_or o.dates j 0) = λ j. get_or-map day_number o.dates j 0 in
      rw (falling (map day_number o.dates) i m (rw (at (suc i), at i) b)) (and-false (leb (length o.dates) 64))

  opens_dated : OpensDated lent o
  unfolding Days.rising
  opens_dated = record {
    no_date = λ d i n b. judged false (in_order (dates_of o)) (rw d (all_not is_date o.dates i 0 n b)) refl;
    many = λ d a n. judged true false (rw d a) (rw (d, lt-leb _ _ n));
    falls = λ d a i n b. judged true false (rw d a) (rw d (unordered i n b));
    listed = λ d a n r. judged true true (rw d a) (rw (d, le-leb _ _ n) r);
    no_list = λ d. judged true true (rw d) (rw d);
  }

opens : (lent : Book) (o : Opening) → Opens lent o
unfolding opening fresh ask
opens lent o = record {
  id_first = λ n. rw (ne_eqb _ _ n) (go (ranged o.settings.delay) (leb o.settings.fee 1000) (all_dates (dates_of o)) (in_order (dates_of o)));
  short = λ e h. rw (eq-eqb _ _ e, below_range _ h);
  long = λ e h. rw (eq-eqb _ _ e, above_range _ h);
  dear = λ e h k f. rw (eq-eqb _ _ e, le-leb _ _ h, le-leb _ _ k, lt-leb _ _ f);
  dates = opens_dated lent o;
  default = refl;
  fee = refl;
  moves = opening_moves o;
}
  where
    go : (x y z w : Bool) → made lent o false x y z w ≡ not_opened lent 2
    go x y z w = refl

-- Keys of the right types.
module _ (at : Context) (customer merchant : Party) (d : ℕ) (ch : Channel) (unused : ch.status ≡ 0) (first : typed_key customer.key ≡ true) (second : typed_key merchant.key ≡ true) where
  pass_six : (customer.key ≡ merchant.key → ⊥) → (answered ch (establish at customer merchant d ch)).refusal ≡ 6 → ⊥
  unfolding keyed establish ask answer concluded ruling
  pass_six n e = go (delay_fits d) (deposits_fit customer.deposit.0 merchant.deposit.0) (rw (unused, first, second, same_ne _ _ n) at e)
    where
      go : (x y : Bool) → (let j = judge clean (test 7 x ∷ test 8 y ∷ []) in j.refusal) ≡ 6 → ⊥
      go true true = eqb-false 0 6 refl
      go true false = eqb-false 8 6 refl
      go false y = eqb-false 7 6 refl

  fail_six : customer.key ≡ merchant.key → answered ch (establish at customer merchant d ch) ≡ refusal 6 0
  unfolding keyed establish ask answer concluded ruling
  fail_six e = rw (unused, first, second, e, same_refl merchant.key)

  compares_keys : Keys at customer merchant d ch
  compares_keys = record { differ = λ i n. pass_six (λ e. n (ap (λ (k : List ℕ). get_or k i 0) e)); equal = fail_six }

disputes_by_leaf : (at : Context) (hashed : List ℕ) (v : Verdict) (ch : Channel) → ch.status ≡ 5 → at.clock.0 < ch.deadline.0 → hashed ≡ ch.lock → DisputesByLeaf at hashed v ch
unfolding dispute ask answer concluded ruling
disputes_by_leaf at hashed v ch e t h =
    let z : 0 + v.steps ≡ v.steps = omega arith in
    record {
      bad = λ g. rw (e, lt-ltb _ _ t, h, same_refl ch.lock, g, z);
      first = λ g q. rw (e, lt-ltb _ _ t, h, same_refl ch.lock, g, eq-eqb _ _ q, z);
      second = λ g q. rw (e, lt-ltb _ _ t, h, same_refl ch.lock, g, eq-eqb _ _ q, or-true (eqb v.leaf ch.leaves.first), z);
      other = λ g m n. rw (e, lt-ltb _ _ t, h, same_refl ch.lock, g, ne_eqb _ _ m, ne_eqb _ _ n, z);
    }

answers_any : (at : Context) (c b : ℕ) (lock : List ℕ) (v w : Verdict) (ch : Channel) → ch.status ≡ 4 → at.clock.0 < ch.deadline.0 → c + b ≡ total ch → v.good ≡ true → w.good ≡ true
    → (answered ch (customer_close at lock c b v w ch)).refusal ≡ 0
unfolding customer_close ask answer concluded ruling
answers_any at c b lock v w ch e t f g h = rw (eq-eqb (c + b) (total ch) f, e, lt-ltb _ _ t, g, h)

module _ (check : List ℕ → List ℕ → List ℕ → Verdict) (hash : List ℕ → List ℕ) where
  codes_in_order : (b : Book) (s : List ℕ) → 1 ≤ opcode s → opcode s ≤ 10 → rising 0 (formed s (order check hash b s).checks) ≡ true
  unfolding plan establish fund_customer fund_merchant reclaim mutual_close customer_close merchant_close dispute settle
  codes_in_order b s = go (opcode s)
    where
      ch : Channel
      ch = channel b (place s)

      go : (op : ℕ) → 1 ≤ op → op ≤ 10 → rising 0 (formed s (cond (eqb op 1) (set_clock b (time s)) (on_channel b (place s) (plan check hash op (context_of b) s ch))).checks) ≡ true
      go zero p q = let z : ⊥ = omega (arith, p) in absurd z
      go (suc zero) p q = refl
      go (suc (suc i)) p q =
          rw (ne_eqb (suc (suc i)) 1 (λ e. omega (arith, e)))
          (each_plan (λ x. rising 4 x.checks) (no_plan ch) (drop 2 (plans check hash (context_of b) s ch)) refl i (λ h. let z : ⊥ = omega (arith, h, q) in absurd z))

  unsound : (b : Book) → sound b ≡ false → Unsound check hash b
  unfolding step reading due
  unsound b e = record {
    answers = λ s. first_no 99 (sound b) (formed s (order check hash b s).checks) b (order check hash b s) e (eqb-false 99 0 refl);
    reads = λ n. rw e;
    names = rw e;
  }

  other_layout : (b : Book) (n : ℕ) → b.mark ≡ mark_of n → (n ≡ layout → ⊥) → Unsound check hash b
  unfolding sound
  other_layout b n e h = unsound b (rw (ne_eqb b.mark the_mark (λ m. h (omega (arith, e, m)))))

  other_setup : (b : Book) → sound_setup b.setup ≡ false → Unsound check hash b
  unfolding sound
  other_setup b e = unsound b (and_middle (eqb b.mark the_mark && leb b.clock.0 limit) _ (all sound_channel b.channels) e)

  other_days : (b : Book) → sound_days b.setup.count b.setup.days ≡ false → Unsound check hash b
  other_days b e = other_setup b (rw e (and-false (ranged b.setup.delay && leb b.setup.fee 1000 && leb b.setup.dated 1)))

  divides : (b : Book) (s : List ℕ) → (step check hash b s).answer.refusal ≡ 0 → Divides b.setup.fee (order check hash b s).pays (step check hash b s).answer
  unfolding step answer charged
  divides b s h = go (sound b) refl
    where
      go : (x : Bool) → sound b ≡ x → Divides b.setup.fee (order check hash b s).pays (step check hash b s).answer
      go true e = rw (eq-eqb _ _ h) (record { customer = refl; fee = refl; whole = sub-add_cancel (fee_below b.setup.fee _ (setup_limits b.setup (sound_context b e).0).1) })
      go false e = absurd (eqb-false 99 0 refl (sym (ap (λ (r : Stepped). r.answer.refusal) ((unsound b e).answers s)) ∙ h))

  refused : (b : Book) (s : List ℕ) → ((step check hash b s).answer.refusal ≡ 0 → ⊥)
      → step check hash b s ≡ record { book = b; answer = refusal (step check hash b s).answer.refusal (step check hash b s).answer.steps }
  unfolding step answer charged
  refused b s h = carried_stops (judge clean (shared b s (order check hash b s).checks)) b (order check hash b s) h

  pub right_turns : WrongTurns check hash
  unfolding total read_channel ask delayed answerable_at establish fund_customer fund_merchant reclaim mutual_close customer_close merchant_close dispute settle answer concluded ruling
  right_turns = record {
    unsound = unsound;
    other_layout = other_layout;
    short_default = λ b h. other_setup b (rw (below_range _ h));
    long_default = λ b h. other_setup b (rw (above_range _ h));
    dear_fee = λ b h. other_setup b (rw (lt-leb _ _ h, and-false (ranged b.setup.delay)));
    other_flag = λ b h. other_setup b (and_middle (ranged b.setup.delay && leb b.setup.fee 1000) (leb b.setup.dated 1) _ (lt-leb _ _ h));
    many_days = λ b h. other_days b (too_many _ _ h);
    late_day = λ b i h n e. other_days b (too_late _ _ i h n e);
    falling_days = λ b i h n e. other_days b (not_rising _ _ i h n e);
    unlisted = λ s t e. sym (unlisted s t e);
    opens = opens;
    refused = refused;
    divides = divides;
    unused = λ ch e. rw e;
    establishes = λ at customer merchant ch. record {
      default = refl;
      delay = λ d n. rw (ne_eqb d 0 n);
      awaits_merchant = λ d e. rw (eq-eqb _ _ e);
      awaits_customer = λ d n. rw (ne_eqb _ _ n);
      deadline = λ d. refl;
      kept = λ d. refl;
      lock = λ d. refl;
      leaves = λ d. refl;
    };
    reclaims = λ v ch g e. let z : 0 + v.steps ≡ v.steps = omega arith in rw (e, g) (ap (λ (n : ℕ). refusal 12 n) z);
    unclosed_settled = λ at ch p q. rw (ne_eqb _ _ p, ne_eqb _ _ q);
    unclosed_disputed = λ at hashed v ch e. rw (ne_eqb _ _ e);
    lock_differs = λ at hashed v ch e t n. rw (e, lt-ltb _ _ t, same_ne _ _ n);
    remembers = λ at v w ch. record {
      merchant_closes = refl;
      customer_closes = λ lock c b e. rw e;
      customer_answers = λ lock c b e. rw e;
      customer_funds = λ cents. refl;
      merchant_funds = λ cents. refl;
      reclaims = refl;
      agrees = λ c b. refl;
      disputes = λ hashed. refl;
      settles = refl;
    };
    by_leaf = disputes_by_leaf;
    answers_any = answers_any;
    delay_first = λ at customer merchant d ch e k n. rw (e, k, n);
    deposits = λ at customer merchant d ch e k f. record {
      none = λ c b. rw (e, k, f, c, b);
      large = λ h. rw (e, k, f, lt-leb _ _ h);
      some = λ h i. rw (e, k, f, le-leb _ _ h, le-leb _ _ i);
    };
    keys = compares_keys;
    ordered = codes_in_order;
    merchant_closes = λ at v ch. refl;
    answers = λ at c b lock v w ch. refl;
  }
