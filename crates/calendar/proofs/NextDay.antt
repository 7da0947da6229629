-- The next open day: of a rising list it is the first that is not shut; of every list it is the day itself exactly where that is open.
use mathlib.Core.Path.{◌≡◌, refl, sym, ◌∙◌, subst}
use mathlib.Core.Bool.{Bool, true, false, cond, ◌||◌}
use mathlib.Core.List.{List, [], ◌∷◌}
use Prim.Native.Nat.{ℕ, suc, ◌+◌, ◌*◌, ◌/◌, ◌≤◌, ◌<◌}
use native.Mathlib.Numerals.{add-one}
use native.Mathlib.Omega.{arith}
use lib.Dec.{eqb, ltb}
use lib.ListN.{length, drop, get_or, drop_of_length-le}
use lib.Seq.{drop-cons}
use borrow.Author.Tests.{eqb-true, eqb-false, eq-eqb, ne_eqb, ltb-true, ltb-false}
use Rattle.wire.proofs.Laws.{and_both, clash, or_neither, or_right}
use Rattle.calendar.specs.Calendar.{weekday}
use Rattle.calendar.specs.Days.{weekend, listed, shut, skip, past, next_open, above, rising, day_seconds, banked, NextOpen, BankedMeans}

or_left : (a b : Bool) → a ≡ true → (a || b) ≡ true
or_left a b h = rw h

saturday : (k : ℕ) → weekday k ≡ 6 → weekend k ≡ true
unfolding weekend
saturday k h = rw (eq-eqb _ _ h)

sunday : (k : ℕ) → weekday k ≡ 0 → weekend k ≡ true
unfolding weekend
sunday k h = or_right (eqb (weekday k) 6) _ (eq-eqb _ _ h)

workday : (k : ℕ) → (weekday k ≡ 6 → ⊥) → (weekday k ≡ 0 → ⊥) → weekend k ≡ false
unfolding weekend
workday k a b = rw (ne_eqb _ _ a, ne_eqb _ _ b)

-- What skip gives.
record Skips (d e : ℕ) : Type 0 where
  on : d ≤ e
  works : weekend e ≡ false
  between : (k : ℕ) → d ≤ k → k < e → weekend k ≡ true
  near : e ≤ d + 2

-- The day k is d or the one after it.
one_of_two : (P : ℕ → Type 0) (d k : ℕ) → d ≤ k → k < d + 2 → P d → P (d + 1) → P k
one_of_two P d k a b p q = go (eqb k d) refl
  where
    go : (x : Bool) → eqb k d ≡ x → P k
    go true z = subst P (sym (eqb-true k d z)) p
    go false z = let n = eqb-false k d z in let e : d + 1 ≡ k = omega arith in subst P e q

skips : (d : ℕ) → Skips d (skip d)
unfolding skip
skips d = go (eqb (weekday d) 6) refl (eqb (weekday d) 0) refl
  where
    go : (x : Bool) → eqb (weekday d) 6 ≡ x → (y : Bool) → eqb (weekday d) 0 ≡ y → Skips d (cond x (d + 2) (cond y (d + 1) d))
    go true p y q =
        let h : weekday d ≡ 6 = eqb-true _ _ p in
        let i : weekday (d + 1) ≡ 0 = omega (arith, h) in
        let j : weekday (d + 2) ≡ 1 = omega (arith, h) in
        record {
          on = omega arith;
          works = workday (d + 2) (λ z. omega arith) (λ z. omega arith);
          between = λ k a b. one_of_two (λ k. weekend k ≡ true) d k a b (saturday d h) (sunday (d + 1) i);
          near = omega arith;
        }
    go false p true q =
        let h : weekday d ≡ 0 = eqb-true _ _ q in
        let j : weekday (d + 1) ≡ 1 = omega (arith, h) in
        record {
          on = omega arith;
          works = workday (d + 1) (λ z. omega arith) (λ z. omega arith);
          between = λ k a b. let e : d ≡ k = omega arith in subst (λ k. weekend k ≡ true) e (sunday d h);
          near = omega arith;
        }
    go false p false q = record {
      on = omega arith;
      works = workday d (eqb-false _ _ p) (eqb-false _ _ q);
      between = λ k a b. let z : ⊥ = omega arith in absurd z;
      near = omega arith;
    }

-- A day at or below the bound of a list is none of it.
below_none : (l : List ℕ) (p k : ℕ) → above p l ≡ true → k ≤ p → listed k l ≡ false
unfolding above listed
below_none [] p k h b = refl
below_none (x ∷ l) p k h b =
    let a = and_both (ltb p x) (above x l) h in
    let lt = ltb-true p x a.0 in
    rw (ne_eqb x k (λ e. omega arith)) (below_none l x k a.1 (omega arith))

widen : (a b c : Bool) → (a || c) ≡ true → (a || (b || c)) ≡ true
widen true b c h = refl
widen false true c h = refl
widen false false c h = h

-- One listed day more.
module _ (x : ℕ) (l : List ℕ) (d e r : ℕ) (s : Skips d e) (a : above x l ≡ true) where
  -- The first listed day is e itself.
  at_first : x ≡ e → NextOpen l (suc e) r → NextOpen (x ∷ l) d r
  unfolding listed
  at_first q n =
      let o = or_neither (weekend r) (listed r l) n.opens in
      let far : suc e ≤ r = n.on in
      let near : d ≤ e = s.on in
      let apart : x ≡ r → ⊥ = λ h. omega arith in
      record { on = omega arith; opens = rw (o.0, ne_eqb x r apart, o.1); between = each }
    where
      each : (k : ℕ) → d ≤ k → k < r → (weekend k || (eqb x k || listed k l)) ≡ true
      each k b c = go (ltb k e) refl (eqb k e) refl
        where
          go : (y : Bool) → ltb k e ≡ y → (z : Bool) → eqb k e ≡ z → (weekend k || (eqb x k || listed k l)) ≡ true
          go true p z t = or_left (weekend k) _ (s.between k b (ltb-true _ _ p))
          go false p true t = let h = eqb-true k e t in let m : x ≡ k = omega arith in or_right (weekend k) _ (or_left (eqb x k) _ (eq-eqb x k m))
          go false p false t =
              let h = ltb-false k e p in
              let m = eqb-false k e t in
              more (n.between k (omega arith) c)
            where
              more : (weekend k || listed k l) ≡ true → (weekend k || (eqb x k || listed k l)) ≡ true
              more g = widen (weekend k) (eqb x k) (listed k l) g

  -- It is not.
  past_first : (x ≡ e → ⊥) → NextOpen l e r → NextOpen (x ∷ l) d r
  unfolding listed
  past_first q n =
      let o = or_neither (weekend r) (listed r l) n.opens in
      let near : d ≤ e = s.on in
      record { on = omega (arith, n.on); opens = rw (o.0, ne_eqb x r (apart (ltb x e) refl), o.1); between = each }
    where
      -- A later listed day is past the day that is found: e is open.
      apart : (y : Bool) → ltb x e ≡ y → x ≡ r → ⊥
      apart true p h = let g = ltb-true x e p in omega (arith, n.on)
      apart false p h =
          let g = ltb-false x e p in
          let free : listed e l ≡ false = below_none l x e a (omega arith) in
          let open' : shut l e ≡ false = rw (s.works, free) in
          clash (n.between e (omega arith) (omega arith)) open'

      each : (k : ℕ) → d ≤ k → k < r → (weekend k || (eqb x k || listed k l)) ≡ true
      each k b c = go (ltb k e) refl
        where
          go : (y : Bool) → ltb k e ≡ y → (weekend k || (eqb x k || listed k l)) ≡ true
          go true p = or_left (weekend k) _ (s.between k b (ltb-true _ _ p))
          go false p = let h = ltb-false k e p in widen (weekend k) (eqb x k) (listed k l) (n.between k (omega arith) c)

above_rising : (l : List ℕ) (p : ℕ) → above p l ≡ true → rising l ≡ true
unfolding above rising
above_rising [] p h = refl
above_rising (x ∷ l) p h = (and_both (ltb p x) (above x l) h).1

next_by : (x : ℕ) (l : List ℕ) (d : ℕ) → above x l ≡ true → ((k : ℕ) → NextOpen l k (next_open l k)) → (y : Bool) → eqb x (skip d) ≡ y → NextOpen (x ∷ l) d (next_open l (cond y (suc (skip d)) (skip d)))
next_by x l d h rest true z = at_first x l d (skip d) _ (skips d) h (eqb-true _ _ z) (rest (suc (skip d)))
next_by x l d h rest false z = past_first x l d (skip d) _ (skips d) h (eqb-false _ _ z) (rest (skip d))

pub next : (l : List ℕ) (d : ℕ) → rising l ≡ true → NextOpen l d (next_open l d)
unfolding next_open rising listed past
next [] d h = let s = skips d in record { on = s.on; opens = rw s.works; between = λ k b c. rw (s.between k b c) }
next (x ∷ l) d h = next_by x l d h (λ k. next l k (above_rising l x h)) (eqb x (skip d)) refl

-- ---- of every list: the day itself where it is open, a later one where it is shut

skip_open : (d : ℕ) → weekend d ≡ false → skip d ≡ d
unfolding weekend skip
skip_open d h = let o = or_neither (eqb (weekday d) 6) (eqb (weekday d) 0) h in rw (o.0, o.1)

skip_shut : (d : ℕ) → weekend d ≡ true → d < skip d
skip_shut d h =
    let s = skips d in
    let apart : skip d ≡ d → ⊥ = λ e. clash h (rw e at s.works) in
    omega (arith, s.on, apart)

pub past_near : (x d : ℕ) → (skip d ≤ past x d) × (past x d ≤ d + 3)
unfolding past
past_near x d = go (eqb x (skip d))
  where
    go : (y : Bool) → (skip d ≤ cond y (suc (skip d)) (skip d)) × (cond y (suc (skip d)) (skip d) ≤ d + 3)
    go true = (omega arith, omega (arith, (skips d).near))
    go false = (omega arith, omega (arith, (skips d).near))

pub skip_near : (d : ℕ) → (d ≤ skip d) × (skip d ≤ d + 2)
skip_near d = ((skips d).on, (skips d).near)

forward : (l : List ℕ) (d : ℕ) → d ≤ next_open l d
unfolding next_open
forward [] d = (skips d).on
forward (x ∷ l) d = omega (arith, (skips d).on, (past_near x d).0, forward l (past x d))

pub stays : (l : List ℕ) (d : ℕ) → shut l d ≡ false → next_open l d ≡ d
unfolding next_open listed past
stays [] d h = skip_open d (or_neither (weekend d) false h).0
stays (x ∷ l) d h =
    let o = or_neither (weekend d) (eqb x d || listed d l) h in
    let n = or_neither (eqb x d) (listed d l) o.1 in
    rw (skip_open d o.0, n.0) (stays l d (rw (o.0, n.1)))

pub leaves : (l : List ℕ) (d : ℕ) → shut l d ≡ true → d < next_open l d
unfolding next_open listed past
leaves [] d h = skip_shut d (either (weekend d) h)
  where
    either : (w : Bool) → (w || false) ≡ true → w ≡ true
    either true e = refl
    either false e = e
leaves (x ∷ l) d h = go (leaves l d) (weekend d) refl (eqb x d) refl h
  where
    later : d < past x d → d < next_open l (past x d)
    later b = omega (arith, b, forward l (past x d))

    go : (shut l d ≡ true → d < next_open l d) → (w : Bool) → weekend d ≡ w → (y : Bool) → eqb x d ≡ y → (w || (y || listed d l)) ≡ true → d < next_open l (past x d)
    go rest true p y q h = later (omega (arith, skip_shut d p, (past_near x d).0))
    go rest false p true q h = let e = skip_open d p in rw (e, q) (forward l (suc d))
    go rest false p false q h = let e = skip_open d p in rw (e, q) (rest (rw p h))

-- ---- a listed day after another, as the code takes it: o is its answer of skip

module _ (x d o : ℕ) (e : o ≡ skip d) where
  pub past_at : o ≡ x → o + 1 ≡ past x d
  unfolding past
  past_at h = rw (← e, eq-eqb x o (sym h), add-one)

  pub past_off : (o ≡ x → ⊥) → o ≡ past x d
  unfolding past
  past_off h = rw (← e, ne_eqb x o (λ q. h (sym q)))

-- After i turns the listed days from i on are still to be passed.
abbrev pub Passed : List ℕ → ℕ → ℕ → ℕ → Type 0
Passed l day o i = (o ≤ day + 3 * i) × (next_open (drop i l) o ≡ next_open l day)

pub passed_more : (l : List ℕ) (day o i : ℕ) → Passed l day o i → i < length l → (n : ℕ) → n ≡ past (get_or l i 0) o → Passed l day n (i + 1)
unfolding next_open
passed_more l day o i v h n e =
    let d : drop i l ≡ get_or l i 0 ∷ drop (i + 1) l = rw add-one (drop-cons l i 0 h) in
    (omega (arith, e, (past_near (get_or l i 0) o).1, v.0), rw e (rw d at v.1))

pub passed_all : (l : List ℕ) (day o i : ℕ) → Passed l day o i → length l ≤ i → i ≤ 64 → (r : ℕ) → r ≡ skip o → (r ≡ next_open l day) × (r ≤ day + 194)
unfolding next_open
passed_all l day o i v h m r e = (e ∙ rw (drop_of_length-le l {i = i} h) at v.1, omega (arith, e, (skip_near o).1, v.0))

-- ---- a moved deadline

pub banked_means : BankedMeans
unfolding banked
banked_means l r t = (λ h. rw h, λ h. (next_open l (t / day_seconds), rw h, next l (t / day_seconds) r))

-- As the code takes it: o is its next open day.
module _ (l : List ℕ) (t o : ℕ) (e : o ≡ next_open l (t / day_seconds)) where
  pub banked_stays : o ≡ t / day_seconds → t ≡ banked l t
  unfolding banked
  banked_stays h = go (shut l (t / day_seconds)) refl
    where
      go : (x : Bool) → shut l (t / day_seconds) ≡ x → t ≡ cond x (day_seconds * next_open l (t / day_seconds)) t
      go true p = let b = leaves l (t / day_seconds) p in let z : ⊥ = omega (arith, b, e, h) in absurd z
      go false p = refl

  pub banked_moves : (o ≡ t / day_seconds → ⊥) → day_seconds * o ≡ banked l t
  unfolding banked
  banked_moves h = go (shut l (t / day_seconds)) refl
    where
      go : (x : Bool) → shut l (t / day_seconds) ≡ x → day_seconds * o ≡ cond x (day_seconds * next_open l (t / day_seconds)) t
      go true p = rw e
      go false p = absurd (h (e ∙ stays l (t / day_seconds) p))
