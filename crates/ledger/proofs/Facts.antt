-- What the stage of a channel says: a sound record, and the third demand's equations.
use mathlib.Core.Path.{◌≡◌, refl, ◌∙◌}
use mathlib.Core.Bool.{true, false, not, ◌&&◌, ◌||◌}
use mathlib.Core.List.{List}
use Prim.Native.Nat.{ℕ, zero, suc, ◌+◌, ◌≤◌, ◌<◌}
use native.Mathlib.Omega.{arith}
use lib.Dec.{eqb, leb}
use borrow.Author.Tests.{le-leb}
use Rattle.machine.specs.Book.{agreed, total, held, sound_terms, sound_channel}
use Rattle.ledger.specs.Ledger.{Event, deposits, sum, opcodes, member, has, event_of, closed, closings, shares, paid, all_merchant, split, Unspent}
use Rattle.machine.specs.declared.state.Channel.{Channel}
use Rattle.wire.proofs.Laws.{and_make, clash, or_right}
use Rattle.ledger.proofs.Life.{Basis, leaf_in, Signed, Lacks, unclosed, unanswered, running, unmatched, unfunded, TermsOf, Live, Leaving, StageAt}
use Rattle.ledger.proofs.Moves.{fewer, lacks_none, signed_none, tally_none, total_at, held_at}

pub record Facts (x : Basis) (l : List Event) (c : Channel) : Type 0 where
  pub sound : sound_channel c ≡ true
  pub conserved : deposits l ≡ held c + (paid l).customer + (paid l).merchant + (paid l).fee
  pub closes : closed l ≡ eqb c.status 6
  pub splits : closed l ≡ true → shares (paid l) ≡ split l
  pub disputed : has 9 l ≡ true → shares (paid l) ≡ all_merchant l
  pub leaf_once : has 9 l ≡ true → Unspent (leaf_in x l) l (event_of 9 l).string
  pub follows : has 9 l ≡ true → has 7 l ≡ true
  pub signed : Signed x.good l
  pub either : (has 6 l && has 7 l) ≡ false
  pub single : closings l < 2
  pub begun : (k : ℕ) → has k l ≡ true → has 2 l ≡ true
  pub timely : has 7 l ≡ true → has 9 l ≡ false → has 10 l ≡ false → (c.status ≡ 5) × Leaving x l c

module _ (x : Basis) (l : List Event) (c : Channel) where
  sound_of : TermsOf x l c → leb c.status 6 ≡ true → (not (eqb c.status 5) || leb c.kept.0 (agreed c)) ≡ true → sound_channel c ≡ true
  unfolding sound_channel
  sound_of t p q = and_make p (or_right (eqb c.status 0) (sound_terms c) (and_make (and_make (le-leb _ _ t.fits) (and_make (le-leb _ _ t.least) (le-leb _ _ t.most))) q))

  open_facts : Lacks unclosed l → ((k : ℕ) → has k l ≡ true → has 2 l ≡ true) → eqb c.status 6 ≡ false → sound_channel c ≡ true → deposits l ≡ held c + (paid l).customer + (paid l).merchant + (paid l).fee → Signed x.good l → (has 7 l ≡ true → (c.status ≡ 5) × Leaving x l c) → Facts x l c
  unfolding member
  open_facts w v n s d g t = record {
    sound = s;
    conserved = d;
    closes = rw (w 5 refl, w 6 refl, w 9 refl, w 10 refl, n);
    splits = λ p. let q : closed l ≡ false = rw (w 5 refl, w 6 refl, w 9 refl, w 10 refl) in absurd (clash p q);
    disputed = λ p. absurd (clash p (w 9 refl));
    leaf_once = λ p. absurd (clash p (w 9 refl));
    follows = λ p. absurd (clash p (w 9 refl));
    signed = g;
    either = rw (w 6 refl);
    timely = λ p q r. t p;
    begun = v;
    single = omega (arith, tally_none 5 (opcodes l) (w 5 refl), tally_none 6 (opcodes l) (w 6 refl), tally_none 9 (opcodes l) (w 9 refl), tally_none 10 (opcodes l) (w 10 refl));
  }

  live_facts : (ks : List ℕ) (d : ℕ) → Lacks unanswered l → Signed x.good l → Live x ks d l c → leb c.status 6 ≡ true → eqb c.status 5 ≡ false → eqb c.status 6 ≡ false → held c ≡ d → Facts x l c
  unfolding member
  live_facts ks d w v g b n m h = open_facts (fewer 7 unclosed l w) (λ k _. g.terms.there) m (sound_of g.terms b (rw n)) (omega arith) v (λ p. absurd (clash p (w 7 refl)))

  pub stage_facts : (n : ℕ) → c.status ≡ n → StageAt x l c n → Facts x l c
  unfolding sound_channel held sum opcodes member
  stage_facts zero e g = open_facts (rw g (lacks_none unclosed)) (λ k p. let q : has k l ≡ false = rw g in absurd (clash p q)) (rw e) (rw e) (rw (e, g) (omega arith)) (signed_none x.good l (rw g (lacks_none running))) (λ p. let q : has 7 l ≡ false = rw g in absurd (clash p q))
  stage_facts (suc zero) e g = live_facts unfunded 0 (fewer 8 unanswered l (fewer 4 running l (fewer 3 unmatched l g.lacks))) (signed_none x.good l (fewer 4 running l (fewer 3 unmatched l g.lacks))) g (rw e) (rw e) (rw e) (rw e)
  stage_facts (suc (suc zero)) e g = live_facts unmatched c.customer.deposit.0 (fewer 8 unanswered l (fewer 4 running l g.lacks)) (signed_none x.good l (fewer 4 running l g.lacks)) g (rw e) (rw e) (rw e) (rw e)
  stage_facts (suc (suc (suc zero))) e g = live_facts running (agreed c) (fewer 8 unanswered l g.lacks) (signed_none x.good l g.lacks) g (rw e) (rw e) (rw e) (held_at c 3 (total c) e refl ∙ total_at c 2 e)
  stage_facts (suc (suc (suc (suc zero)))) e g = live_facts unanswered (agreed c) g.live.lacks g.signed g.live (rw e) (rw e) (rw e) (held_at c 4 (total c) e refl ∙ total_at c 3 e)
  stage_facts (suc (suc (suc (suc (suc zero))))) e g =
      let m : c.kept.0 ≤ agreed c = omega (arith, g.closing) in
      open_facts g.lacks (λ k _. g.terms.there) (rw e) (sound_of g.terms (rw e) (rw (e, le-leb _ _ m))) (rw e (omega (arith, g.closing, g.money))) g.signed (λ p. (e, g))
  stage_facts (suc (suc (suc (suc (suc (suc zero)))))) e g = record {
    sound = sound_of g.terms (rw e) (rw e);
    conserved = rw e (omega (arith, g.even));
    closes = rw (e, g.ended);
    splits = λ _. g.splits;
    disputed = g.disputed;
    leaf_once = g.leaf_once;
    follows = g.follows;
    signed = g.signed;
    either = g.either;
    single = g.single;
    begun = λ k _. g.terms.there;
    timely = λ p q r. absurd (clash refl (rw (p, q, r) at g.left));
  }
  stage_facts (suc (suc (suc (suc (suc (suc (suc n))))))) e g = absurd g
