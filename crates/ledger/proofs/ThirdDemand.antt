-- The third demand, for every list.
use mathlib.Core.Path.{◌≡◌, refl, sym, ap, subst, ◌∙◌}
use mathlib.Core.Bool.{Bool, true, false, cond, not, ◌&&◌}
use mathlib.Core.List.{List, [], ◌∷◌}
use Prim.Native.Nat.{ℕ, zero, suc, ◌+◌, ◌≤◌, ◌<◌}
use native.Mathlib.Omega.{arith}
use lib.ListN.{length, get_or, set, length-set, length-replicate, get_or-replicate}
use lib.Seq.{get_or-set_same, get_or-set_other}
use lib.Dec.{eqb, leb, ltb}
use borrow.Author.Tests.{eqb-true, eqb-false, leb-true, ltb-true, le-leb, lt-ltb, eq-eqb}
use Rattle.wire.specs.Numbers.{u32_at}
use Rattle.sha256.specs.Digest.{sha256}
use Rattle.lms.proofs.LeafLaw.{leaf_law}
use Rattle.machine.specs.Format.{opcode, size, time, place, delay, signatures, signature, message}
use Rattle.wire.specs.Parts.{all}
use Rattle.machine.specs.Book.{cents, limit, highest, the_mark, sound_channel, sound_setup, sound, remembered, no_channel, channel, reading, read_channel}
use Rattle.machine.specs.Checks.{Check, Verdict, clean, passed, judge}
use Rattle.machine.specs.Opening.{Opening, dates_of, opening_checks, setup_of, unused, fresh, opening}
use Rattle.machine.specs.Fee.{charged}
use Rattle.machine.specs.Rules.{Payment, pay, delayed, answerable_at, establish, fund_customer, fund_merchant, reclaim, mutual_close, customer_close, merchant_close, dispute, settle}
use Rattle.machine.specs.Machine.{answer, Order, set_clock, on_channel, shared, carried, context_of, plans, plan, no_plan, planned, order, verdict, step}
use Rattle.machine.specs.Real.{lms_verdict}
use Rattle.ledger.specs.Ledger.{Entry, Event, accepted, of_channel, clock, strings, of_none, paid_by, nothing, Divided, entry_at, opcodes, member, tally, has, event_of, one_sided, Timely, Standing, recorded, after, leaf_of, Disputes, Accounted, ThirdDemand}
use Rattle.machine.specs.declared.state.Channel.{Channel}
use Rattle.machine.specs.declared.state.Setup.{Setup}
use Rattle.machine.specs.declared.state.Book.{Book}
use Rattle.machine.specs.declared.answers.Answer.{Answer}
use Rattle.machine.specs.Answered.{Judged}
use Rattle.machine.specs.declared.answers.Stepped.{Stepped}
use Rattle.wire.proofs.Laws.{and_both, and_make, same_refl, clash}
use Rattle.calendar.proofs.Listing.{kept_sound}
use Rattle.machine.proofs.Laws.{setup_limits, opening_moves}
use Rattle.machine.proofs.Fees.{charged_whole, charged_divided, free}
use Rattle.machine.proofs.Judging.{Passed, coded, judge_passed, passed_judge}
use Rattle.machine.proofs.Plans.{each_plan}
use Rattle.ledger.proofs.Life.{Basis, Stage}
use Rattle.ledger.proofs.Leaves.{unremembered}
use Rattle.ledger.proofs.Moves.{next, moves, Once, once_on, one_of}
use Rattle.ledger.proofs.Facts.{Facts, stage_facts}

-- ---- lists

all_of : (p : Channel → Bool) (d : Channel) (l : List Channel) → ((i : ℕ) → i < length l → p (get_or l i d) ≡ true) → all p l ≡ true
all_of p d [] h = refl
all_of p d (x ∷ l) h = and_make (h 0 (omega arith)) (all_of p d l (λ i k. h (suc i) (omega arith)))

-- A claim of every place of a list, after one place was set.
set_each : (Q : ℕ → Channel → Type 0) (d : Channel) (l : List Channel) (m : ℕ) (a : Channel) → m < length l → Q m a → ((n : ℕ) → eqb m n ≡ false → Q n (get_or l n d)) → (n : ℕ) → Q n (get_or (set l m a) n d)
set_each Q d l m a h q r n = go (eqb m n) refl
  where
    go : (x : Bool) → eqb m n ≡ x → Q n (get_or (set l m a) n d)
    go true z = subst (λ j. Q j (get_or (set l m a) j d)) (eqb-true m n z) (subst (Q m) (sym (get_or-set_same l m a d h)) q)
    go false z = subst (Q n) (sym (get_or-set_other l m n a d (λ e. eqb-false m n z (sym e)))) (r n z)

-- ---- every entry of a history

abbrev Each : (Entry → Type 0) → List Entry → Type 0
Each P h = (i : ℕ) → i < length h → P (entry_at h i)

each_on : (P : Entry → Type 0) (e : Entry) (h : List Entry) → P e → Each P h → Each P (e ∷ h)
each_on P e h f u zero p = f
each_on P e h f u (suc i) p = u i (omega (arith, p))

-- A string that is no channel's pays nothing.
abbrev Unpaid : Entry → Type 0
Unpaid e = of_none e ≡ true → paid_by e.answer ≡ nothing

abbrev Charged : ℕ → Entry → Type 0
Charged r e = Divided r (paid_by e.answer)

-- ---- the book agrees with its history

-- What the strings are read by: the book's setup, and what the check says.
abbrev basis_of : (List ℕ → List ℕ → List ℕ → Verdict) → Book → Basis
basis_of check b = record {
  setup = b.setup;
  good = λ key op s. (check key (message (signatures op) b.id s) (signature (signatures op) s)).good;
  leaf = λ key op s. (check key (message (signatures op) b.id s) (signature (signatures op) s)).leaf;
}

record Agrees (check : List ℕ → List ℕ → List ℕ → Verdict) (o : Opening) (t : Standing) : Type 0 where
  mark : t.book.mark ≡ the_mark
  same : t.book.id ≡ o.id
  setup : t.book.setup ≡ setup_of o
  fixed : sound_setup t.book.setup ≡ true
  now : t.book.clock.0 ≡ clock t.history
  early : t.book.clock.0 ≤ limit
  many : length t.book.channels ≡ 64
  stage : (n : ℕ) → n < 64 → Stage (basis_of check t.book) (strings n t.history) (channel t.book n)
  idle : Each Unpaid t.history
  divided : Each (Charged o.settings.fee) t.history
  once : (n : ℕ) → n < 64 → Once (strings n t.history)

-- One more accepted string of a channel, and the strings of that channel and of another.
module _ (h : List Entry) (e : Entry) (yes : accepted e ≡ true) where
  strings_own : of_channel e.string ≡ true → strings (place e.string) (e ∷ h) ≡ next (strings (place e.string) h) e.string e.answer (clock h) ∷ strings (place e.string) h
  unfolding strings
  strings_own o = rw (yes, o, eq-eqb (place e.string) (place e.string) refl)

  strings_other : (n : ℕ) → (of_channel e.string && eqb (place e.string) n) ≡ false → strings n (e ∷ h) ≡ strings n h
  unfolding strings
  strings_other n o = rw (yes, o)

-- An answer before its fee; what an accepted order leaves.
abbrev uncharged : Payment → ℕ → ℕ → Answer
uncharged p code steps = record { refusal = code; customer = p.customer; merchant = p.merchant; steps = steps; fee = cents 0 }

abbrev granted : ℕ → Order → ℕ → Stepped
granted r o steps = record { book = o.book; answer = charged r (uncharged o.pays 0 steps) }

unpaid : (r code steps : ℕ) → paid_by (charged r (uncharged (pay 0 0) code steps)) ≡ nothing
unpaid r code steps = ap paid_by (free r (uncharged (pay 0 0) code steps) refl refl)

module _ (check : List ℕ → List ℕ → List ℕ → Verdict) (o : Opening) (t : Standing) (i : Agrees check o t) where
  facts : (n : ℕ) → n < 64 → Facts (basis_of check t.book) (strings n t.history) (channel t.book n)
  facts n p = stage_facts _ _ _ _ refl (i.stage n p)

  sound_book : sound t.book ≡ true
  unfolding sound
  sound_book = and_make (and_make (and_make (eq-eqb _ _ i.mark) (le-leb _ _ i.early)) i.fixed) (all_of sound_channel no_channel t.book.channels (λ n p. (facts n (omega (arith, i.many))).sound))

  abbrev rate : ℕ
  rate = t.book.setup.fee

  low : rate ≤ highest
  low = (setup_limits t.book.setup i.fixed).1

  module _ (s : List ℕ) where
    abbrev entered : Answer → Entry
    entered a = record { string = s; answer = charged rate a }

    each_charged : (a : Answer) → Each (Charged o.settings.fee) (entered a ∷ t.history)
    each_charged a = each_on (Charged o.settings.fee) (entered a) t.history (subst (λ (x : Setup). Divided x.fee (paid_by (charged rate a))) i.setup (charged_divided rate a low)) i.divided

    refused_agrees : (code steps : ℕ) → eqb code 0 ≡ false → Agrees check o (recorded t s (record { book = t.book; answer = charged rate (uncharged (pay 0 0) code steps) }))
    unfolding strings clock charged
    refused_agrees code steps z = record {
      mark = i.mark;
      same = i.same;
      setup = i.setup;
      fixed = i.fixed;
      now = rw z i.now;
      early = i.early;
      many = i.many;
      stage = λ n p. rw z (i.stage n p);
      once = λ n p. rw z (i.once n p);
      idle = each_on Unpaid (entered (uncharged (pay 0 0) code steps)) t.history (λ _. unpaid rate code steps) i.idle;
      divided = each_charged (uncharged (pay 0 0) code steps);
    }

    clock_agrees : (steps : ℕ) → opcode s ≡ 1 → Passed (set_clock t.book (time s)).checks → Agrees check o (recorded t s (granted rate (set_clock t.book (time s)) steps))
    unfolding strings clock charged
    clock_agrees steps e p =
        let q = and_both (leb t.book.clock.0 (time s)) _ p.0 in
        record {
          mark = i.mark;
          same = i.same;
          setup = i.setup;
          fixed = i.fixed;
          now = rw e;
          early = leb-true _ _ q.1;
          many = i.many;
          stage = λ n p. rw e (i.stage n p);
          once = λ n p. rw e (i.once n p);
          idle = each_on Unpaid (entered (uncharged (pay 0 0) 0 steps)) t.history (λ _. unpaid rate 0 steps) i.idle;
          divided = each_charged (uncharged (pay 0 0) 0 steps);
        }

    module _ (hash : List ℕ → List ℕ) where
      abbrev named : Order
      named = on_channel t.book (place s) (planned check hash t.book s)

      channel_agrees : (steps : ℕ) → eqb (opcode s) 1 ≡ false → of_channel s ≡ true → Passed named.checks → Agrees check o (recorded t s (granted rate named steps))
      unfolding clock verdict charged
      channel_agrees steps u c p = record {
        mark = i.mark;
        same = i.same;
        setup = i.setup;
        fixed = i.fixed;
        now = rw u i.now;
        early = i.early;
        many = simp length-set i.many;
        divided = each_charged (uncharged named.pays 0 steps);
        idle = each_on Unpaid e t.history (λ u. let k : ltb (place s) 64 ≡ true = p.0 in let v : of_none e ≡ false = cc in absurd (clash u v)) i.idle;
        stage = λ n q. (each n q).0;
        once = λ n q. (each n q).1;
      }
        where
          r : Stepped
          r = granted rate named steps

          e : Entry
          e = record { string = s; answer = r.answer }

          lt : place s < 64
          lt = ltb-true _ _ p.0

          l : List Event
          l = strings (place s) t.history

          go : Stage (basis_of check t.book) (next l s r.answer (clock t.history) ∷ l) (planned check hash t.book s).channel × (has (opcode s) l ≡ false)
          go = moves l s r.answer (clock t.history) (channel t.book (place s)) (context_of t.book) i.fixed (sym i.now) (basis_of check t.book).good (basis_of check t.book).leaf check hash (λ op. (refl, refl)) (opcode s) refl p.1 refl (charged_whole rate (uncharged named.pays 0 steps) low) (i.stage (place s) lt)

          Q : ℕ → Channel → Type 0
          Q n ch = n < 64 → Stage (basis_of check t.book) (strings n (e ∷ t.history)) ch × Once (strings n (e ∷ t.history))

          each : (n : ℕ) → Q n (channel r.book n)
          each = set_each Q no_channel t.book.channels (place s) (planned check hash t.book s).channel (omega (arith, lt, i.many))
              (λ _. rw (strings_own t.history e refl c) (go.0, once_on _ l go.1 (i.once (place s) lt)))
              (λ n z q. rw (strings_other t.history e refl n (rw (c, z))) (i.stage n q, i.once n q))

      abbrev checks_of : List Check
      checks_of = shared t.book s (order check hash t.book s).checks

      coded_checks : coded checks_of ≡ true
      unfolding plan establish fund_customer fund_merchant reclaim mutual_close customer_close merchant_close dispute settle
      coded_checks = go (eqb (opcode s) 1)
        where
          go : (x : Bool) → coded (cond x (set_clock t.book (time s)) named).checks ≡ true
          go true = refl
          go false = each_plan (λ p. coded p.checks) (no_plan (channel t.book (place s))) (plans check hash (context_of t.book) s (channel t.book (place s))) refl (opcode s) (λ _. refl)

      granted_agrees : (steps : ℕ) → Passed checks_of → Agrees check o (recorded t s (granted rate (order check hash t.book s) steps))
      granted_agrees steps p = go (eqb (opcode s) 1) refl p.1.1.1
        where
          go : (x : Bool) → eqb (opcode s) 1 ≡ x → Passed (cond x (set_clock t.book (time s)) named).checks → Agrees check o (recorded t s (granted rate (cond x (set_clock t.book (time s)) named) steps))
          go true z q = clock_agrees steps (eqb-true _ _ z) q
          go false z q =
              let k = and_both (leb 1 (opcode s)) (leb (opcode s) 10) p.1.0 in
              channel_agrees steps z (and_make (le-leb 2 (opcode s) (omega (arith, leb-true 1 (opcode s) k.0, eqb-false (opcode s) 1 z))) k.1) q

      step_agrees : Agrees check o (recorded t s (step check hash t.book s))
      unfolding step answer
      step_agrees = go (passed j) refl
        where
          j : Judged
          j = judge clean checks_of

          go : (x : Bool) → passed j ≡ x → Agrees check o (recorded t s (carried j t.book (order check hash t.book s)))
          go true z = rw z (rw (eqb-true j.refusal 0 z) (granted_agrees j.steps (judge_passed checks_of clean coded_checks (eqb-true j.refusal 0 z)).1))
          go false z = rw z (refused_agrees j.refusal j.steps z)

-- ---- from the opening on

fresh_agrees : (check : List ℕ → List ℕ → List ℕ → Verdict) (o : Opening) → sound_setup (setup_of o) ≡ true → Agrees check o (record { book = fresh o; history = [] })
unfolding fresh strings clock opcodes tally
fresh_agrees check o e = record {
  mark = refl;
  same = refl;
  setup = refl;
  fixed = e;
  now = refl;
  early = omega arith;
  many = length-replicate 64 unused;
  stage = λ n p. subst (Stage (basis_of check (fresh o)) []) (sym (get_or-replicate 64 n unused no_channel p)) refl;
  idle = λ i p. let z : ⊥ = omega (arith, p) in absurd z;
  divided = λ i p. let z : ⊥ = omega (arith, p) in absurd z;
  once = λ n p i. omega arith;
}

module _ (check : List ℕ → List ℕ → List ℕ → Verdict) (hash : List ℕ → List ℕ) where
  after_agrees : (o : Opening) (t : Standing) (l : List (List ℕ)) → Agrees check o t → Agrees check o (after check hash t l)
  unfolding after
  after_agrees o t [] i = i
  after_agrees o t (s ∷ l) i = after_agrees o (recorded t s (step check hash t.book s)) l (step_agrees check o t i s hash)

  module _ (o : Opening) (t : Standing) (i : Agrees check o t) (n : ℕ) (p : n < 64) where
    dispute_passes : Timely o (strings n t.history) (clock t.history) → (d : List ℕ) → Disputes check hash o n (strings n t.history) d → Passed (checks_of check o t i d hash)
    unfolding plan dispute verdict
    dispute_passes w d v =
        let m = (facts check o t i n p).timely w.closing w.undisputed w.unsettled in
        let c = channel t.book n in
        let from = (event_of 7 (strings n t.history)).clock in
        let agreed : Setup → ℕ = λ (x : Setup). delayed x.delay (delay (event_of 2 (strings n t.history)).string) in
        let due = m.1.closing.due
        ∙ ap (λ (wait : ℕ). answerable_at t.book.setup (from + wait)) m.1.terms.delays
        ∙ ap (λ (x : Setup). answerable_at x (from + agreed x)) i.setup
        ∙ opening_moves o (from + agreed (setup_of o)) in
        let early : t.book.clock.0 < c.deadline.0 = omega (arith, due, w.early, i.now) in
        let free : remembered (leaf_of check o (strings n t.history) 9 d) c ≡ false = unremembered (leaf_of check o (strings n t.history)) (strings n t.history) c (rw i.same at m.1.leaves) d v.unspent in
        rw (v.code, v.named) (sound_book check o t i, (refl, (eq-eqb (length d) (size 9) v.whole, (lt-ltb n 64 p, (eq-eqb c.status 5 m.0, (lt-ltb _ _ early, (rw (v.opens, m.1.closing.lock') (same_refl _), (rw (i.same, m.1.terms.signer) v.good, (rw (i.same, m.1.terms.signer) (ap not free), tt)))))))))

    kept : Accounted check hash o t.book t.history n (strings n t.history)
    unfolding reading read_channel step answer charged
    kept =
        let f = facts check o t i n p in
        let u : reading t.book n ≡ read_channel (channel t.book n) = rw (sound_book check o t i, lt-ltb n 64 p) in
        record {
          read = rw u;
          conserved = rw u f.conserved;
          closes = rw u f.closes;
          splits = f.splits;
          disputed = f.disputed;
          divided = i.divided;
          leaf_once = rw i.same at f.leaf_once;
          follows = f.follows;
          signed = rw i.same at f.signed;
          once = i.once n p;
          parted = one_of 6 7 (strings n t.history) f.either (i.once n p);
          single = f.single;
          begun = f.begun;
          elsewhere = i.idle;
          dispute = λ w d v. passed_judge (checks_of check o t i d hash) clean (dispute_passes w d v) refl;
        }

-- An accepted opening: the book is fresh, and what it keeps is in its limits.
opened : (lent : Book) (o : Opening) → (opening lent o).refusal ≡ 0 → ((opening lent o).book ≡ fresh o) × (sound_setup (setup_of o) ≡ true)
unfolding opening
opened lent o e =
    let p = judge_passed (opening_checks o) clean refl e in
    (rw (eq-eqb _ _ e), and_make (and_make (and_make p.1.1.0 p.1.1.1.0) (flag o.settings.dated)) (kept_sound (dates_of o) ∙ p.1.1.1.1.1.0))
  where
    flag : (x : Bool) → leb (cond x 1 0) 1 ≡ true
    flag true = refl
    flag false = refl

pub third_demand : (check : List ℕ → List ℕ → List ℕ → Verdict) (hash : List ℕ → List ℕ) → ThirdDemand check hash
third_demand check hash lent o e l n p =
    let q = opened lent o e in
    rw q.0 (kept check hash o _ (after_agrees check hash o _ l (fresh_agrees check o q.1)) n (omega (arith, p)))

-- Of the real machine.
pub third_demand_met : ThirdDemand lms_verdict sha256
third_demand_met = third_demand lms_verdict sha256

-- Its leaves are bytes: that of an accepted 07, 08 or 09 is the first four of the merchant's signature.
pub leaf_bytes : (o : Opening) (b : Book) (h : List Entry) (n : ℕ) (l : List Event) → Accounted lms_verdict sha256 o b h n l
    → (k : ℕ) → member k one_sided ≡ true → has k l ≡ true → leaf_of lms_verdict o l k (event_of k l).string ≡ u32_at (signature (signatures k) (event_of k l).string) 0
leaf_bytes o b h n l a k m p = (leaf_law _ _ _).good (a.signed k m p)
