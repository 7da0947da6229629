-- What due says, channel by channel.
use mathlib.Core.Path.{◌≡◌, refl, ap, subst}
use mathlib.Core.Bool.{Bool, true, false, cond, not, ◌&&◌, ◌||◌}
use mathlib.Core.List.{List, [], ◌∷◌}
use Prim.Native.Nat.{ℕ, zero, suc, ◌+◌, ◌≤◌, ◌<◌}
use native.Mathlib.Omega.{arith}
use lib.ListN.{get_or}
use borrow.Author.Tests.{ltb-true, ltb-false, leb-true, leb-false, eqb-true, eq-eqb}
use Rattle.machine.specs.Book.{cents, held, sound, closing, no_channel}
use Rattle.machine.specs.Due.{Soonest, Due, number, none, precedes, sooner, soonest, due, FirstDue, DueMeans}
use Rattle.machine.specs.declared.state.Book.{Book}
use Rattle.machine.specs.declared.state.Channel.{Channel}
use Rattle.wire.proofs.Laws.{and_both, clash, or_neither}
use Rattle.machine.proofs.Laws.{and_other, or_either}

abbrev at : List Channel → ℕ → Channel
at l i = get_or l i no_channel

-- A channel is not before a deadline and a sum.
abbrev Behind : ℕ → ℕ → Channel → Type 0
Behind deadline sum ch = (deadline ≤ ch.deadline.0) × (ch.deadline.0 ≡ deadline → held ch ≤ sum)

-- What it says that a channel comes before the soonest of others, and that it does not.
module _ (ch : Channel) (s : Soonest) where
  ahead : precedes ch s ≡ true → (ch.deadline.0 ≤ s.deadline.0) × (s.deadline.0 ≡ ch.deadline.0 → s.held.0 ≤ held ch)
  ahead z =
      or_either
      z
      (λ y. let l : ch.deadline.0 < s.deadline.0 = ltb-true _ _ y in (omega (arith, l), λ q. absurd (omega (arith, l, q))))
      (λ y. let p = and_both _ _ y in let e : ch.deadline.0 ≡ s.deadline.0 = eqb-true _ _ p.0 in (omega (arith, e), λ _. leb-true _ _ p.1))

  behind : precedes ch s ≡ false → (s.deadline.0 ≤ ch.deadline.0) × (ch.deadline.0 ≡ s.deadline.0 → held ch < s.held.0)
  behind z = let p = or_neither _ _ z in (ltb-false _ _ p.0, λ q. leb-false _ _ (and_other (eq-eqb _ _ q) p.1))

-- The soonest of the channels l, whose first has number k, is the one at place i.
record First (k : ℕ) (l : List Channel) (s : Soonest) (i : ℕ) : Type 0 where
  numbered : s.number ≡ k + i
  closes : closing (at l i) ≡ true
  dated : s.deadline.0 ≡ (at l i).deadline.0
  holds : s.held.0 ≡ held (at l i)
  others : (j : ℕ) → closing (at l j) ≡ true → Behind s.deadline.0 s.held.0 (at l j)
  lower : (j : ℕ) → closing (at l j) ≡ true → j < i → (at l j).deadline.0 ≡ s.deadline.0 → held (at l j) < s.held.0

-- Either it is there, or no channel is closing.
record Told (k : ℕ) (l : List Channel) (s : Soonest) : Type 0 where
  some : s.some ≡ true → (i : ℕ) × First k l s i
  none : s.some ≡ false → (j : ℕ) → closing (at l j) ≡ false

abbrev this : ℕ → Channel → Soonest
this k ch = record { some = true; number = k; deadline = ch.deadline; held = cents (held ch) }

-- Channel k before the others.
module _ (k : ℕ) (ch : Channel) (l : List Channel) (s : Soonest) (t : Told (suc k) l s) where
  took : closing ch ≡ true → (not s.some || precedes ch s) ≡ true → Told k (ch ∷ l) (this k ch)
  took c e = record {
    some = λ _. (0, record { numbered = omega arith; closes = c; dated = refl; holds = refl; others = others; lower = λ j _ h. absurd (omega arith) });
    none = λ h. absurd (clash refl h);
  }
    where
      rest : (x : Bool) → s.some ≡ x → (not x || precedes ch s) ≡ true → (j : ℕ) → closing (at l j) ≡ true → Behind ch.deadline.0 (held ch) (at l j)
      rest true z e j h =
          let a = ahead ch s e in
          let b = (t.some z).1.others j h in
          (omega (arith, a.0, b.0), λ q. let w : s.deadline.0 ≡ ch.deadline.0 = omega (arith, a.0, b.0, q) in omega (arith, a.1 w, b.1 (omega (arith, q, w))))
      rest false z e j h = absurd (clash h (t.none z j))

      others : (j : ℕ) → closing (at (ch ∷ l) j) ≡ true → Behind ch.deadline.0 (held ch) (at (ch ∷ l) j)
      others zero h = (omega arith, λ _. omega arith)
      others (suc j) h = rest s.some refl e j h

  passes : (closing ch && (not s.some || precedes ch s)) ≡ false → Told k (ch ∷ l) s
  passes e = record { some = some; none = none }
    where
      late : (x : Bool) → closing ch ≡ true → (closing ch && (not x || precedes ch s)) ≡ false
          → (x ≡ true) × (s.deadline.0 ≤ ch.deadline.0) × (ch.deadline.0 ≡ s.deadline.0 → held ch < s.held.0)
      late true c e = let p = behind ch s (rw c at e) in (refl, p.0, p.1)
      late false c e = absurd (clash refl (rw c at e))

      some : s.some ≡ true → (i : ℕ) × First k (ch ∷ l) s i
      some z =
          let i = (t.some z).0 in
          let f = (t.some z).1 in
          let others : (j : ℕ) → closing (at (ch ∷ l) j) ≡ true → Behind s.deadline.0 s.held.0 (at (ch ∷ l) j) = elim [ zero ↦ λ h. let b = late s.some h e in (b.1, λ q. omega (arith, b.2 q)) | suc j ↦ λ h. f.others j h ] in
          let lower : (j : ℕ) → closing (at (ch ∷ l) j) ≡ true → j < suc i → (at (ch ∷ l) j).deadline.0 ≡ s.deadline.0 → held (at (ch ∷ l) j) < s.held.0 = elim [ zero ↦ λ h _. (late s.some h e).2 | suc j ↦ λ h m. f.lower j h (omega arith) ] in
          (suc i, record { numbered = omega (arith, f.numbered); closes = f.closes; dated = f.dated; holds = f.holds; others = others; lower = lower })

      first : (x : Bool) → closing ch ≡ x → s.some ≡ false → closing ch ≡ false
      first true c z = absurd (clash (late s.some c e).0 z)
      first false c z = c

      none : s.some ≡ false → (j : ℕ) → closing (at (ch ∷ l) j) ≡ false
      none z zero = first (closing ch) refl z
      none z (suc j) = t.none z j

told_more : (k : ℕ) (ch : Channel) (l : List Channel) (s : Soonest) → Told (suc k) l s → Told k (ch ∷ l) (sooner k ch s)
unfolding sooner
told_more k ch l s t = go (closing ch && (not s.some || precedes ch s)) refl
  where
    go : (x : Bool) → (closing ch && (not s.some || precedes ch s)) ≡ x → Told k (ch ∷ l) (cond x (this k ch) s)
    go true z = let p = and_both (closing ch) (not s.some || precedes ch s) z in took k ch l s t p.0 p.1
    go false z = passes k ch l s t z

told : (l : List Channel) (k : ℕ) → Told k l (soonest k l)
unfolding soonest
told [] k = record { some = λ h. absurd (clash h refl); none = λ _ j. refl }
told (ch ∷ l) k = told_more k ch l (soonest (suc k) l) (told l (suc k))

pub due_means : (b : Book) → DueMeans b
unfolding due
due_means b = record { named = λ n e. named (sound b) refl (soonest 0 b.channels).some refl n e; unnamed = λ e h. (told b.channels 0).none (empty (sound b) h (soonest 0 b.channels).some refl e) }
  where
    s : Soonest
    s = soonest 0 b.channels

    named : (x : Bool) → sound b ≡ x → (y : Bool) → s.some ≡ y → (n : ℕ) → cond (x && y) (number s.number) none ≡ number n → FirstDue b n
    named true p true q n e =
        let f = ((told b.channels 0).some q).1 in
        let i = ((told b.channels 0).some q).0 in
        let w : s.number ≡ n = cc in
        let v : i ≡ n = omega (arith, f.numbered) in
        subst
        (FirstDue b)
        v
        (record {
          steady = p;
          closes = f.closes;
          least = λ m h. omega (arith, (f.others m h).0, f.dated);
          larger = λ m h e. let w = (f.others m h).1 (omega (arith, e, f.dated)) in omega (arith, w, f.holds);
          lower = λ m h j e. let w = f.lower m h j (omega (arith, e, f.dated)) in omega (arith, w, f.holds);
        })
    named true p false q n e = let z : ◌≡◌ {A = ℕ} 0 1 = cc in absurd (omega (arith, z))
    named false p y q n e = let z : ◌≡◌ {A = ℕ} 0 1 = cc in absurd (omega (arith, z))

    empty : (x : Bool) → x ≡ true → (y : Bool) → s.some ≡ y → cond (x && y) (number s.number) none ≡ none → s.some ≡ false
    empty true p true q e = let z : ◌≡◌ {A = ℕ} 0 1 = cc in absurd (omega (arith, z))
    empty true p false q e = q
    empty false p y q e = absurd (clash p refl)

-- And no other channel is such: of two, the one with the lower number would hold less, and no less.
alone : (b : Book) (n m : ℕ) → FirstDue b n → FirstDue b m → m < n → ⊥
alone b n m f g l =
    let e = f.least m g.closes in
    let h = g.least n f.closes in
    let less = f.lower m g.closes l (omega (arith, e, h)) in
    let more = g.larger n f.closes (omega (arith, e, h)) in
    omega (arith, less, more)

pub due_only : (b : Book) (n : ℕ) → FirstDue b n → due b ≡ number n
due_only b n f = go (due b) refl
  where
    go : (x : Due) → due b ≡ x → x ≡ number n
    go none e = absurd (clash f.closes ((due_means b).unnamed e f.steady n))
    go (number m) e =
        let g = (due_means b).named m e in
        ap number (omega (arith, alone b n m f g, alone b m n g f))
