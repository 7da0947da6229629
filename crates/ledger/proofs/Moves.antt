-- An accepted command leads a channel from its stage to the next, and its opcode had not come before.
use mathlib.Core.Path.{◌≡◌, refl, ap, sym, subst, ◌∙◌}
use mathlib.Core.Bool.{Bool, true, false, false≢true, cond, ◌&&◌, ◌||◌}
use mathlib.Core.List.{List, [], ◌∷◌}
use Prim.Native.Nat.{ℕ, zero, suc, ◌+◌, ◌≤◌, ◌<◌}
use native.Mathlib.Omega.{arith}
use lib.Dec.{eqb, leb}
use borrow.Author.Tests.{eqb-true, leb-true, ne_eqb, not-true}
use Rattle.machine.specs.Checks.{Verdict}
use Rattle.machine.specs.Format.{opcode, amount, customer_deposit, merchant_deposit, delay, customer_part, merchant_part, lock, merchant_key, signatures}
use Rattle.machine.specs.Book.{limit, shortest, longest, ranged, agreed, total, held, remembered, sound_setup}
use Rattle.machine.specs.Book as book
use Rattle.machine.specs.Rules.{Plan, moved, become, delayed, delay_fits, answerable_at, closes_at, established, establish, fund_customer, fund_merchant, reclaim, mutual_close, customer_close, merchant_close, dispute, settle}
use Rattle.machine.specs.Machine.{customer_of, merchant_of, verdict, plan}
use Rattle.ledger.specs.Ledger.{Event, paid_by, deposits, sum, opcodes, member, tally, has, count, event_of, closings, agreed_customer, agreed_total, shares, paid, all_merchant, split, one_sided, Unspent}
use Rattle.machine.specs.declared.state.Channel.{Channel}
use Rattle.machine.specs.declared.state.Context.{Context}
use Rattle.machine.specs.declared.answers.Answer.{Answer}
use Rattle.wire.proofs.Laws.{and_both, clash, or_neither, or_other, or_right}
use Rattle.machine.proofs.Laws.{in_range, setup_limits}
use Rattle.machine.proofs.Judging.{Passed}
use Rattle.ledger.proofs.Leaves.{unspent}
use Rattle.ledger.proofs.Life.{Basis, leaf_in, Signed, Lacks, unclosed, unanswered, running, unmatched, unfunded, TermsOf, Money, Live, Waiting, Leaving, Over, StageAt, Stage}

-- ---- laws

-- What is lacking stays lacking where one is dropped from the list.
pub fewer : (k : ℕ) (ks : List ℕ) (l : List Event) → Lacks (k ∷ ks) l → Lacks ks l
unfolding member
fewer k ks l h i m = h i (or_right (eqb k i) (member i ks) m)

pub lacks_none : (ks : List ℕ) → Lacks ks []
unfolding opcodes member
lacks_none ks k m = refl

-- What holds of 07, 08 and 09 holds of each of them.
each_one_sided : (P : ℕ → Type 0) → P 7 → P 8 → P 9 → (k : ℕ) → member k one_sided ≡ true → P k
unfolding member
each_one_sided P a b c k = go (eqb 7 k) refl (eqb 8 k) refl (eqb 9 k) refl
  where
    go : (x : Bool) → eqb 7 k ≡ x → (y : Bool) → eqb 8 k ≡ y → (z : Bool) → eqb 9 k ≡ z → (x || (y || (z || false))) ≡ true → P k
    go true e y f z g m = subst P (eqb-true 7 k e) a
    go false e true f z g m = subst P (eqb-true 8 k f) b
    go false e false f true g m = subst P (eqb-true 9 k g) c
    go false e false f false g m = absurd (false≢true m)

pub signed_none : (good : List ℕ → ℕ → List ℕ → Bool) (l : List Event) → Lacks running l → Signed good l
unfolding member
signed_none good l w = each_one_sided (λ k. has k l ≡ true → good (merchant_key (event_of 2 l).string) k (event_of k l).string ≡ true) (λ h. absurd (clash h (w 7 refl))) (λ h. absurd (clash h (w 8 refl))) (λ h. absurd (clash h (w 9 refl)))

paid_split : (l : List Event) (x y : ℕ) → split l ≡ record { customer = x; merchant = y } → (shares (paid l)).customer ≡ x → (shares (paid l)).merchant ≡ y → shares (paid l) ≡ split l
paid_split l x y p q r = ap (λ (i : ℕ). record { customer = i; merchant = (shares (paid l)).merchant }) q ∙ ap (λ (i : ℕ). record { customer = x; merchant = i }) r ∙ sym p

pub tally_none : (i : ℕ) (o : List ℕ) → member i o ≡ false → tally i o ≡ 0
unfolding member tally
tally_none i [] m = refl
tally_none i (x ∷ o) m =
    let p = or_neither (eqb x i) (member i o) m in
    rw p.0 (omega (arith, tally_none i o p.1))

pub total_at : (c : Channel) (n : ℕ) → c.status ≡ suc n → total c ≡ agreed c
unfolding total
total_at c n e = rw (ne_eqb c.status 0 (λ z. omega arith))

pub held_at : (c : Channel) (n x : ℕ) → c.status ≡ n → cond (eqb n 2) c.customer.deposit.0 (cond (eqb n 3 || eqb n 4) (total c) (cond (eqb n 5) c.kept.0 0)) ≡ x → held c ≡ x
unfolding held
held_at c n x e h = subst (λ (i : ℕ). cond (eqb i 2) c.customer.deposit.0 (cond (eqb i 3 || eqb i 4) (total c) (cond (eqb i 5) c.kept.0 0)) ≡ x) (sym e) h

-- Check 7 is on the operand; 0 stands for the default, which is in range.
delayed_fits : (default : ℕ) → ranged default ≡ true → (d : ℕ) → delay_fits d ≡ true → (shortest ≤ delayed default d) × (delayed default d ≤ longest)
unfolding delayed
delayed_fits default r d = go (eqb d 0)
  where
    go : (x : Bool) → (x || ranged d) ≡ true → (shortest ≤ cond x default d) × (cond x default d ≤ longest)
    go true h = in_range default r
    go false h = in_range d h

-- ---- one more string

module _ (l : List Event) (s : List ℕ) (a : Answer) (k : ℕ) where
  abbrev pub next : Event
  next = record { string = s; answer = a; clock = k }

  event_skip : (i : ℕ) → eqb (opcode s) i ≡ false → event_of i (next ∷ l) ≡ event_of i l
  unfolding event_of
  event_skip i o = rw o

  event_next : (i : ℕ) → eqb (opcode s) i ≡ true → event_of i (next ∷ l) ≡ next
  unfolding event_of
  event_next i o = rw o

  no_funds : (eqb (opcode s) 3 || eqb (opcode s) 4) ≡ false → deposits (next ∷ l) ≡ deposits l
  unfolding sum
  no_funds o = rw o (omega arith)

  a_funds : (eqb (opcode s) 3 || eqb (opcode s) 4) ≡ true → deposits (next ∷ l) ≡ amount s + deposits l
  unfolding sum
  a_funds o = rw o

  pays_customer : (shares (paid (next ∷ l))).customer ≡ a.customer.0 + (shares (paid l)).customer
  unfolding sum
  pays_customer = refl

  pays_merchant : (shares (paid (next ∷ l))).merchant ≡ (shares (paid_by a)).merchant + (shares (paid l)).merchant
  unfolding sum
  pays_merchant = omega arith

  lacks_on : (ks : List ℕ) → member (opcode s) ks ≡ false → Lacks ks l → Lacks ks (next ∷ l)
  unfolding opcodes member
  lacks_on ks m h i n = go (eqb (opcode s) i) refl
    where
      go : (x : Bool) → eqb (opcode s) i ≡ x → (x || has i l) ≡ false
      go true z = absurd (clash n (subst (λ j. member j ks ≡ false) (eqb-true (opcode s) i z) m))
      go false z = h i n

  single_on : Lacks unclosed l → cond (eqb (opcode s) 5) 1 0 + cond (eqb (opcode s) 6) 1 0 + cond (eqb (opcode s) 9) 1 0 + cond (eqb (opcode s) 10) 1 0 < 2 → closings (next ∷ l) < 2
  unfolding opcodes tally member
  single_on w h = omega (arith, tally_none 5 (opcodes l) (w 5 refl), tally_none 6 (opcodes l) (w 6 refl), tally_none 9 (opcodes l) (w 9 refl), tally_none 10 (opcodes l) (w 10 refl))

  undisputed : eqb (opcode s) 9 ≡ false → has 9 l ≡ false → has 9 (next ∷ l) ≡ true → ⊥
  unfolding opcodes member
  undisputed o m h = let z : has 9 (next ∷ l) ≡ false = rw (o, m) in clash h z

  unspent_on : (leaf : ℕ → List ℕ → ℕ) (d : List ℕ) → eqb (opcode s) 7 ≡ false → eqb (opcode s) 8 ≡ false → Unspent leaf l d → Unspent leaf (next ∷ l) d
  unfolding opcodes member
  unspent_on leaf d a b u = record { of_07 = rw (event_skip 7 a) u.of_07; of_08 = rw (b, event_skip 8 b) u.of_08 }

  signed_on : (good : List ℕ → ℕ → List ℕ → Bool) → eqb (opcode s) 2 ≡ false → (member (opcode s) one_sided ≡ true → good (merchant_key (event_of 2 l).string) (opcode s) s ≡ true) → Signed good l → Signed good (next ∷ l)
  unfolding opcodes member
  signed_on good n g w i m = go (eqb (opcode s) i) refl
    where
      go : (b : Bool) → eqb (opcode s) i ≡ b → (b || has i l) ≡ true → good (merchant_key (event_of 2 (next ∷ l)).string) i (event_of i (next ∷ l)).string ≡ true
      go true z h =
          let e = eqb-true (opcode s) i z in
          rw (event_skip 2 n, event_next i z) (subst (λ j. good (merchant_key (event_of 2 l).string) j s ≡ true) e (g (subst (λ j. member j one_sided ≡ true) (sym e) m)))
      go false z h = rw (event_skip 2 n, event_skip i z) (w i m h)

  -- What a rule reads: its setup is sound, and its clock is the history's. Of a signature, by key, opcode and string:
  -- whether it is good, and its leaf.
  module _ (c : Channel) (at : Context) (fixed : sound_setup at.setup ≡ true) (same : k ≡ at.clock.0) (good : List ℕ → ℕ → List ℕ → Bool) (leaf : List ℕ → ℕ → List ℕ → ℕ) where
    abbrev basis : Basis
    basis = record { setup = at.setup; good = good; leaf = leaf }

    terms_on : eqb (opcode s) 2 ≡ false → TermsOf basis l c → TermsOf basis (next ∷ l) c
    unfolding opcodes member
    terms_on o t = rw (event_skip 2 o, o) t

    unsigned : eqb (opcode s) 2 ≡ false → member (opcode s) one_sided ≡ false → Signed good l → Signed good (next ∷ l)
    unsigned n m = signed_on good n (λ h. absurd (clash h m))

    abbrev pub Leads : ℕ → Plan → Type 0
    Leads op p =
        opcode s ≡ op → Passed p.checks → a.customer.0 ≡ p.pays.customer.0 → (shares (paid_by a)).merchant ≡ p.pays.merchant.0 → Stage basis l c → Stage basis (next ∷ l) p.channel × (has op l ≡ false)

    -- The stage at a status that check 5 found.
    found : (n : ℕ) → eqb c.status n ≡ true → Stage basis l c → StageAt basis l c n
    found n q g = subst (StageAt basis l c) (eqb-true c.status n q) g

    establishes : Leads 2 (establish at (customer_of s) (merchant_of s) (delay s) c)
    unfolding establish opcodes member sum
    establishes o p pc pm g =
        let e : l ≡ [] = found 0 p.0 g in
        let d = delayed_fits at.setup.delay (setup_limits at.setup fixed).0 (delay s) p.1.1.0 in
        let f = and_both (leb (customer_deposit s + merchant_deposit s) limit) _ p.1.1.1.0 in
        let ch = established at.setup.delay (customer_of s) (merchant_of s) (delay s) c in
        let t : TermsOf basis (next ∷ l) ch = rw (event_next 2 (rw o)) (record { there = rw o; customer = refl; merchant = refl; delays = refl; signer = refl; fits = leb-true _ _ f.0; least = d.0; most = d.1 }) in
        let w = lacks_on unfunded (rw o) (rw e (lacks_none unfunded)) in
        let m : Money (next ∷ l) 0 0 0 = omega (arith, no_funds (rw o), pays_customer, pays_merchant, ap deposits e, ap (λ x. (shares (paid x)).customer) e, ap (λ x. (shares (paid x)).merchant) e) in
        let go : (b : Bool) → eqb (customer_deposit s) 0 ≡ b → StageAt basis (next ∷ l) ch (cond b 2 1) = elim [
          | true ↦ λ z. record { terms = t; lacks = fewer 3 unmatched (next ∷ l) w; money = rw (eqb-true (customer_deposit s) 0 z) m }
          | false ↦ λ z. record { terms = t; lacks = w; money = m }
        ] in
        (go (eqb (customer_deposit s) 0) refl, rw e)

    funds_customer : Leads 3 (fund_customer (amount s) c)
    unfolding fund_customer member
    funds_customer o p pc pm g =
        let g' : Live basis unfunded 0 l c = found 1 p.0 g in
        let f = eqb-true (amount s) c.customer.deposit.0 p.1.0 in
        let more = fewer 3 unmatched l g'.lacks in
        let go : (b : Bool) → eqb c.merchant.deposit.0 0 ≡ b → Stage basis (next ∷ l) (become (cond b 3 2) c) = elim [
          | true ↦ λ z. record { terms = terms_on (rw o) g'.terms; lacks = lacks_on running (rw o) (fewer 4 running l more); money = omega (arith, a_funds (rw o), pays_customer, pays_merchant, eqb-true) }
          | false ↦ λ z. record { terms = terms_on (rw o) g'.terms; lacks = lacks_on unmatched (rw o) more; money = omega (arith, a_funds (rw o), pays_customer, pays_merchant) }
        ] in
        (go (eqb c.merchant.deposit.0 0) refl, g'.lacks 3 refl)

    funds_merchant : Leads 4 (fund_merchant (amount s) c)
    unfolding fund_merchant member
    funds_merchant o p pc pm g =
        let g' : Live basis unmatched c.customer.deposit.0 l c = found 2 p.0 g in
        let f = eqb-true (amount s) c.merchant.deposit.0 p.1.0 in (
          record {
            terms = terms_on (rw o) g'.terms;
            lacks = lacks_on running (rw o) (fewer 4 running l g'.lacks);
            money = omega (arith, a_funds (rw o), pays_customer, pays_merchant);
          },
          g'.lacks 4 refl,
        )

    reclaims : (v : Verdict) → Leads 5 (reclaim v c)
    unfolding reclaim opcodes member
    reclaims v o p pc pm g =
        let g' : Live basis unmatched c.customer.deposit.0 l c = found 2 p.0 g in
        let t = terms_on (rw o) g'.terms in (
          record {
            terms = t;
            single = single_on (fewer 7 unclosed l (fewer 8 unanswered l (fewer 4 running l g'.lacks))) (rw o (omega arith));
            ended = rw o;
            left = rw (o, g'.lacks 7 refl);
            even = omega (arith, no_funds (rw o), pays_customer, pays_merchant);
            splits = paid_split (next ∷ l) (agreed_customer (next ∷ l)) 0 (rw o) (omega (arith, pays_customer, t)) (omega (arith, pays_merchant));
            disputed = λ h. absurd (undisputed (rw o) (g'.lacks 9 refl) h);
            leaf_once = λ h. absurd (undisputed (rw o) (g'.lacks 9 refl) h);
            follows = λ h. absurd (undisputed (rw o) (g'.lacks 9 refl) h);
            signed = unsigned (rw o) (rw o) (signed_none good l (fewer 4 running l g'.lacks));
            either = rw (o, g'.lacks 6 refl);
          },
          g'.lacks 5 refl,
        )

    agrees : (v w : Verdict) → Leads 6 (mutual_close (customer_part 6 s) (merchant_part 6 s) v w c)
    unfolding mutual_close opcodes member
    agrees v w o p pc pm g =
        let g' : Live basis running (agreed c) l c = found 3 p.0 g in
        let f = eqb-true (customer_part 6 s + merchant_part 6 s) (total c) p.1.0 in
        let q = total_at c 2 (eqb-true c.status 3 p.0) in
        let n = event_next 6 (rw o) in (
          record {
            terms = terms_on (rw o) g'.terms;
            single = single_on (fewer 7 unclosed l (fewer 8 unanswered l g'.lacks)) (rw o (omega arith));
            ended = rw (o, g'.lacks 5 refl);
            left = rw (o, g'.lacks 7 refl);
            even = omega (arith, no_funds (rw o), pays_customer, pays_merchant);
            splits = paid_split (next ∷ l) (customer_part 6 (event_of 6 (next ∷ l)).string) (merchant_part 6 (event_of 6 (next ∷ l)).string) (rw (o, g'.lacks 5 refl)) (rw n (omega (arith, pays_customer))) (rw n (omega (arith, pays_merchant)));
            disputed = λ h. absurd (undisputed (rw o) (g'.lacks 9 refl) h);
            leaf_once = λ h. absurd (undisputed (rw o) (g'.lacks 9 refl) h);
            follows = λ h. absurd (undisputed (rw o) (g'.lacks 9 refl) h);
            signed = unsigned (rw o) (rw o) (signed_none good l g'.lacks);
            either = rw (o, g'.lacks 7 refl);
          },
          g'.lacks 6 refl,
        )

    -- A verdict is that on the merchant's signature in the string.
    abbrev Tells : ℕ → Verdict → Type 0
    Tells op v = (v.good ≡ good c.merchant.key op s) × (v.leaf ≡ leaf c.merchant.key op s)

    leaf_by : (op : ℕ) (v : Verdict) → TermsOf basis l c → Tells op v → v.leaf ≡ leaf_in basis l op s
    leaf_by op v t e = e.1 ∙ ap (λ (key : List ℕ). leaf key op s) t.signer

    signed_by : (op : ℕ) (v : Verdict) → opcode s ≡ op → eqb op 2 ≡ false → TermsOf basis l c → Tells op v → v.good ≡ true → Signed good l → Signed good (next ∷ l)
    signed_by op v o n t e g = signed_on good (rw o n) (λ _. rw o (sym (e.0 ∙ ap (λ (key : List ℕ). good key op s) t.signer) ∙ g))

    leaves : (v w : Verdict) → Tells 7 v → Leads 7 (customer_close at (lock s) (customer_part 7 s) (merchant_part 7 s) v w c)
    unfolding customer_close opcodes member
    leaves v w told o p pc pm g = go (eqb c.status 3) refl
      where
        first : Bool → ℕ
        first x = cond x v.leaf c.leaves.first

        close : (x : Bool) → Live basis unanswered (agreed c) l c → Signed good l → total c ≡ agreed c → first x ≡ cond (has 8 l) (leaf_in basis l 8 (event_of 8 l).string) v.leaf
            → Leaving basis (next ∷ l) (moved c 5 (closes_at at c) (customer_part 7 s) (lock s) (book.leaves (first x) v.leaf)) × (has 7 l ≡ false)
        close x g' w' q r =
            let f = eqb-true (customer_part 7 s + merchant_part 7 s) (total c) p.1.0 in
            let n = event_next 7 (rw o) in
            let u = leaf_by 7 v g'.terms told in (
              record {
                terms = terms_on (rw o) g'.terms;
                lacks = lacks_on unclosed (rw o) (fewer 7 unclosed l g'.lacks);
                begun = rw o;
                closing = rw n (record { part = refl; whole = omega arith; lock' = refl; due = ap (λ (t : ℕ). answerable_at at.setup (t + c.delay)) (sym same) });
                leaves = rw (event_skip 2 (rw o)) (record { of_08 = rw (o, event_skip 8 (rw o), n) (r ∙ ap (cond (has 8 l) _) u); of_07 = rw n u });
                signed = signed_by 7 v o refl g'.terms told p.1.1.1.0 w';
                money = rw n (omega (arith, no_funds (rw o), pays_customer, pays_merchant));
              },
              g'.lacks 7 refl,
            )

        go : (x : Bool) → eqb c.status 3 ≡ x → Leaving basis (next ∷ l) (moved c 5 (closes_at at c) (customer_part 7 s) (lock s) (book.leaves (first x) v.leaf)) × (has 7 l ≡ false)
        go true z =
            let h : Live basis running (agreed c) l c = found 3 z g in
            close true (record { terms = h.terms; lacks = fewer 8 unanswered l h.lacks; money = h.money }) (signed_none good l h.lacks) (total_at c 2 (eqb-true c.status 3 z)) (rw (h.lacks 8 refl))
        go false z =
            let y = or_other (eqb c.status 3) (eqb c.status 4) p.0 z in
            let h : Waiting basis l c = found 4 y g in
            close false h.live h.signed (total_at c 3 (eqb-true c.status 4 y)) (rw h.begun h.leaf)

    closes : (v : Verdict) → Tells 8 v → Leads 8 (merchant_close at v c)
    unfolding merchant_close opcodes member
    closes v told o p pc pm g =
        let g' : Live basis running (agreed c) l c = found 3 p.0 g in (
          record {
            live = record {
              terms = terms_on (rw o) g'.terms;
              lacks = lacks_on unanswered (rw o) (fewer 8 unanswered l g'.lacks);
              money = omega (arith, no_funds (rw o), pays_customer, pays_merchant);
            };
            begun = rw o;
            leaf = rw (event_next 8 (rw o), event_skip 2 (rw o)) (leaf_by 8 v g'.terms told);
            signed = signed_by 8 v o refl g'.terms told p.1.0 (signed_none good l g'.lacks);
          },
          g'.lacks 8 refl,
        )

    disputes : (h : List ℕ) (v : Verdict) → Tells 9 v → Leads 9 (dispute at h v c)
    unfolding dispute opcodes member
    disputes h v told o p pc pm g =
        let g' : Leaving basis l c = found 5 p.0 g in
        let t = terms_on (rw o) g'.terms in
        let e : split (next ∷ l) ≡ all_merchant (next ∷ l) = rw (o, g'.lacks 5 refl, g'.lacks 6 refl, g'.begun, g'.lacks 10 refl) in
        let q = paid_split (next ∷ l) 0 (agreed_total (next ∷ l)) e (omega (arith, pays_customer)) (omega (arith, pays_merchant, t)) in
        let n : remembered v.leaf c ≡ false = not-true _ p.1.1.1.1.0 in
        let u = unspent (leaf_in basis l) l c g'.leaves s (rw (leaf_by 9 v g'.terms told) at n) in (
          record {
            terms = t;
            single = single_on g'.lacks (rw o (omega arith));
            ended = rw (o, g'.lacks 5 refl, g'.lacks 6 refl);
            left = rw (o, g'.begun);
            even = omega (arith, no_funds (rw o), pays_customer, pays_merchant);
            splits = q;
            disputed = λ _. q ∙ e;
            leaf_once = λ _. rw (event_next 9 (rw o), event_skip 2 (rw o)) (unspent_on (leaf_in basis l) s (rw o) (rw o) u);
            follows = λ _. rw (o, g'.begun);
            signed = signed_by 9 v o refl g'.terms told p.1.1.1.0 g'.signed;
            either = rw (o, g'.lacks 6 refl);
          },
          g'.lacks 9 refl,
        )

    settles : Leads 10 (settle at c)
    unfolding settle opcodes member
    settles o p pc pm g = go (eqb c.status 4) refl
      where
        go : (x : Bool) → eqb c.status 4 ≡ x → Over basis (next ∷ l) (become 6 c) × (has 10 l ≡ false)
        go true z =
            let w : Waiting basis l c = found 4 z g in
            let g' = w.live in
            let e = eqb-true c.status 4 z in
            let x : a.customer.0 ≡ 0 = pc ∙ rw z in
            let y : (shares (paid_by a)).merchant ≡ agreed c = pm ∙ rw z (total_at c 3 e) in
            let t = terms_on (rw o) g'.terms in (
              record {
                terms = t;
                single = single_on (fewer 7 unclosed l g'.lacks) (rw o (omega arith));
                ended = rw (o, g'.lacks 5 refl, g'.lacks 6 refl, g'.lacks 9 refl);
                left = rw (o, g'.lacks 7 refl);
                even = omega (arith, no_funds (rw o), pays_customer, pays_merchant);
                splits = paid_split (next ∷ l) 0 (agreed_total (next ∷ l)) (rw (o, g'.lacks 5 refl, g'.lacks 6 refl, g'.lacks 7 refl, w.begun)) (omega (arith, pays_customer)) (omega (arith, pays_merchant, t));
                disputed = λ h. absurd (undisputed (rw o) (g'.lacks 9 refl) h);
                leaf_once = λ h. absurd (undisputed (rw o) (g'.lacks 9 refl) h);
                follows = λ h. absurd (undisputed (rw o) (g'.lacks 9 refl) h);
                signed = unsigned (rw o) (rw o) w.signed;
                either = rw (o, g'.lacks 6 refl);
              },
              g'.lacks 10 refl,
            )
        go false z =
            let q = or_other (eqb c.status 4) (eqb c.status 5) p.0 z in
            let g' : Leaving basis l c = found 5 q g in
            let x : a.customer.0 ≡ c.kept.0 = pc ∙ rw z in
            let y : (shares (paid_by a)).merchant ≡ 0 = pm ∙ rw z in
            let n = event_skip 7 (rw o) in (
              record {
                terms = terms_on (rw o) g'.terms;
                single = single_on g'.lacks (rw o (omega arith));
                ended = rw (o, g'.lacks 5 refl, g'.lacks 6 refl, g'.lacks 9 refl);
                left = rw (o, g'.begun, g'.lacks 9 refl);
                even = omega (arith, no_funds (rw o), pays_customer, pays_merchant);
                splits = paid_split (next ∷ l) (customer_part 7 (event_of 7 (next ∷ l)).string) (merchant_part 7 (event_of 7 (next ∷ l)).string) (rw (o, g'.lacks 5 refl, g'.lacks 6 refl, g'.begun)) (rw n (omega (arith, pays_customer))) (rw n (omega (arith, pays_merchant)));
                disputed = λ h. absurd (undisputed (rw o) (g'.lacks 9 refl) h);
                leaf_once = λ h. absurd (undisputed (rw o) (g'.lacks 9 refl) h);
                follows = λ h. absurd (undisputed (rw o) (g'.lacks 9 refl) h);
                signed = unsigned (rw o) (rw o) g'.signed;
                either = rw (o, g'.lacks 6 refl);
              },
              g'.lacks 10 refl,
            )

    -- An accepted command of a channel leads from its stage to the next, and its opcode had not come.
    module _ (check : List ℕ → List ℕ → List ℕ → Verdict) (hash : List ℕ → List ℕ) where
      pub moves : ((op : ℕ) → Tells op (verdict check c.merchant.key at.id s (signatures op) (signatures op))) → (op : ℕ) → Leads op (plan check hash op at s c)
      unfolding plan
      moves told zero = λ o p. absurd (clash p.0 refl)
      moves told (suc zero) = λ o p. absurd (clash p.0 refl)
      moves told (suc (suc zero)) = establishes
      moves told (suc (suc (suc zero))) = funds_customer
      moves told (suc (suc (suc (suc zero)))) = funds_merchant
      moves told (suc (suc (suc (suc (suc zero))))) = reclaims _
      moves told (suc (suc (suc (suc (suc (suc zero)))))) = agrees _ _
      moves told (suc (suc (suc (suc (suc (suc (suc zero))))))) = leaves _ _ (told 7)
      moves told (suc (suc (suc (suc (suc (suc (suc (suc zero)))))))) = closes _ (told 8)
      moves told (suc (suc (suc (suc (suc (suc (suc (suc (suc zero))))))))) = disputes _ _ (told 9)
      moves told (suc (suc (suc (suc (suc (suc (suc (suc (suc (suc zero)))))))))) = settles
      moves told (suc (suc (suc (suc (suc (suc (suc (suc (suc (suc (suc n))))))))))) = λ o p. absurd (clash p.0 refl)

-- ---- each opcode comes once

abbrev pub Once : List Event → Type 0
Once l = (i : ℕ) → count i l < 2

pub once_on : (e : Event) (l : List Event) → has (opcode e.string) l ≡ false → Once l → Once (e ∷ l)
unfolding opcodes tally
once_on e l m h i = go (eqb (opcode e.string) i) refl
  where
    go : (x : Bool) → eqb (opcode e.string) i ≡ x → cond x 1 0 + tally i (opcodes l) < 2
    go true z = let n : has i l ≡ false = rw (eqb-true (opcode e.string) i z) at m in omega (arith, tally_none i (opcodes l) n)
    go false z = omega (arith, h i)

-- Of two that never come together there is at most one.
pub one_of : (i j : ℕ) (l : List Event) → (has i l && has j l) ≡ false → Once l → count i l + count j l < 2
one_of i j l e o = go (has i l) refl e
  where
    go : (x : Bool) → has i l ≡ x → (x && has j l) ≡ false → count i l + count j l < 2
    go true z h = omega (arith, tally_none j (opcodes l) h, o i)
    go false z h = omega (arith, tally_none i (opcodes l) z, o j)
