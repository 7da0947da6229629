-- What a list of checks that all say yes tells, what makes it accept, and that a no ends it.
use mathlib.Core.Path.{◌≡◌, refl, sym, ap, ◌∙◌}
use mathlib.Core.Bool.{Bool, true, false, cond, not, ◌&&◌}
use mathlib.Core.List.{List, [], ◌∷◌}
use Prim.Native.Nat.{ℕ}
use lib.Dec.{eqb}
use borrow.Author.Tests.{eq-eqb, ne_eqb, eqb-true, eqb-false, not-true}
use Rattle.machine.specs.Checks.{Check, test, signed, passed, ask, judge}
use Rattle.machine.specs.Answered.{Judged}
use Rattle.wire.proofs.Laws.{and_both}

-- All the checks of a list say yes.
abbrev pub Passed : List Check → Type 0
Passed [] = Unit {0}
Passed (test r ok ∷ l) = (ok ≡ true) × Passed l
Passed (signed r v ∷ l) = (v.good ≡ true) × Passed l

-- No check has the number 0.
abbrev pub coded : List Check → Bool
coded [] = true
coded (test r ok ∷ l) = not (eqb r 0) && coded l
coded (signed r v ∷ l) = not (eqb r 0) && coded l

said_yes : (j : Judged) (r : ℕ) (ok : Bool) (m : Judged) → m.refusal ≡ cond ok j.refusal r → not (eqb r 0) ≡ true → (cond (passed j) m j).refusal ≡ 0 → (j.refusal ≡ 0) × (ok ≡ true)
said_yes j r ok m e n = go (passed j) refl ok e
  where
    go : (x : Bool) → passed j ≡ x → (y : Bool) → m.refusal ≡ cond y j.refusal r → (cond x m j).refusal ≡ 0 → (j.refusal ≡ 0) × (y ≡ true)
    go true z true e h = (eqb-true _ _ z, refl)
    go true z false e h = absurd (eqb-false r 0 (not-true _ n) (sym e ∙ h))
    go false z y e h = absurd (eqb-false _ _ z h)

pub judge_passed : (l : List Check) (j : Judged) → coded l ≡ true → (judge j l).refusal ≡ 0 → (j.refusal ≡ 0) × Passed l
unfolding ask
judge_passed [] j c h = (h, tt)
judge_passed (test r ok ∷ l) j c h =
    let n = and_both (not (eqb r 0)) (coded l) c in
    let y = judge_passed l (ask j (test r ok)) n.1 h in
    let z = said_yes j r ok _ refl n.0 y.0 in
    (z.0, (z.1, y.1))
judge_passed (signed r v ∷ l) j c h =
    let n = and_both (not (eqb r 0)) (coded l) c in
    let y = judge_passed l (ask j (signed r v)) n.1 h in
    let z = said_yes j r v.good _ refl n.0 y.0 in
    (z.0, (z.1, y.1))

pub passed_judge : (l : List Check) (j : Judged) → Passed l → j.refusal ≡ 0 → (judge j l).refusal ≡ 0
unfolding ask
passed_judge [] j p h = h
passed_judge (test r ok ∷ l) j p h = passed_judge l (ask j (test r ok)) p.1 (rw (eq-eqb _ _ h, p.0) h)
passed_judge (signed r v ∷ l) j p h = passed_judge l (ask j (signed r v)) p.1 (rw (eq-eqb _ _ h, p.0) h)

-- Where a check said no, no other is made.
pub ask_stop : (j : Judged) (k : Check) → (j.refusal ≡ 0 → ⊥) → ask j k ≡ j
unfolding ask
ask_stop j k h = rw (ne_eqb _ _ h)

pub judge_stop : (l : List Check) (j : Judged) → (j.refusal ≡ 0 → ⊥) → judge j l ≡ j
judge_stop [] j h = refl
judge_stop (k ∷ l) j h = ap (λ (i : Judged). judge i l) (ask_stop j k h) ∙ judge_stop l j h
