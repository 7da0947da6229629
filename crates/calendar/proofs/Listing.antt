-- Lists of dates, one by one.
use mathlib.Core.Path.{◌≡◌, refl, sym, ◌∙◌}
use mathlib.Core.Bool.{Bool, true, false, ◌&&◌, and-true, and-false}
use mathlib.Core.List.{List, [], ◌∷◌, ◌++◌, map, map-append, append_assoc}
use Prim.Native.Nat.{ℕ, zero, suc, ◌+◌, ◌-◌, ◌≤◌, ◌<◌}
use native.Mathlib.Numerals.{add-one}
use native.Mathlib.Omega.{arith}
use lib.Dec.{leb, ltb}
use lib.ListN.{length, take, get_or, replicate, set, length-map, length-take}
use lib.Seq.{take_all, take_at, set_at, take-suc, get_or-take, length-take-le}
use borrow.Author.Tests.{ltb-true, ltb-false, lt-ltb, lt-leb, le-ltb}
use Rattle.std.specs.List.{IsAllAdjacentAnswer}
use Rattle.wire.specs.Parts.{all}
use Rattle.wire.proofs.Tested.{all_not}
use Rattle.calendar.specs.Calendar.{numbered, day_number}
use Rattle.calendar.specs.Days.{above, rising}
use Rattle.calendar.specs.Lists.{most, in_order, kept_days, sound_days}
use Rattle.calendar.proofs.Counting.{number_fits}

-- ---- rising

abbrev pub in_time : ℕ → Bool
in_time d = ltb d numbered

-- A list whose days each are above the one before it.
above_all : (p : ℕ) (l : List ℕ) → ((k : ℕ) → k < length l → get_or (p ∷ l) k 0 < get_or l k 0) → above p l ≡ true
unfolding above
above_all p [] h = refl
above_all p (x ∷ l) h = rw (lt-ltb p x (h 0 (omega arith))) (above_all x l (λ k m. h (suc k) (omega arith)))

climbing : (l : List ℕ) → ((k : ℕ) → suc k < length l → get_or l k 0 < get_or l (suc k) 0) → rising l ≡ true
unfolding rising
climbing [] h = refl
climbing (x ∷ l) h = above_all x l (λ k m. h k (omega arith))

-- A list with a day that is not above the one before it does not rise.
not_above : (p : ℕ) (l : List ℕ) (i : ℕ) → i < length l → get_or l i 0 ≤ get_or (p ∷ l) i 0 → above p l ≡ false
unfolding above
not_above p [] i h k = let z : ⊥ = omega arith in absurd z
not_above p (x ∷ l) zero h k = rw (le-ltb _ _ k)
not_above p (x ∷ l) (suc i) h k = rw (not_above x l i (omega arith) k) (and-false (ltb p x))

pub falling : (l : List ℕ) (i : ℕ) → suc i < length l → get_or l (suc i) 0 ≤ get_or l i 0 → rising l ≡ false
unfolding rising
falling [] i h k = let z : ⊥ = omega arith in absurd z
falling (x ∷ l) i h k = not_above x l i (omega arith) k

-- ---- the test of a book's days

-- What the library's test of neighbours tells.
pub rising_by : (l : List ℕ) (r : Bool) → IsAllAdjacentAnswer (λ x y b. b ≡ ltb x y) l r → r ≡ rising l
rising_by l true h = sym (climbing l (λ k m. ltb-true (get_or l k 0) (get_or l (suc k) 0) (rw add-one at (sym (h k 0 (omega arith))))))
rising_by l false (k, m, e) = sym (falling l k (omega arith) (ltb-false (get_or l k 0) (get_or l (suc k) 0) (rw add-one at (sym (e 0)))))

-- The test in parts.
pub sound_by : (days : List ℕ) (count : ℕ) (l : List ℕ) → l ≡ take count days → (a b : Bool) → a ≡ rising l → b ≡ all in_time l → (leb count most && a && b) ≡ sound_days count days
sound_by days count l e a b p q = rw (p, q, e)

-- Unsound are more than 64, a number that is no day's, and a pair that does not rise.
pub too_many : (k : ℕ) (l : List ℕ) → 64 < k → sound_days k l ≡ false
too_many k l h = rw (lt-leb _ _ h)

pub too_late : (k : ℕ) (l : List ℕ) (i : ℕ) → i < k → i < length l → numbered ≤ get_or l i 0 → sound_days k l ≡ false
too_late k l i h n e =
    let m : i < length (take k l) = rw (length-take k l) (omega arith) in
    let b : ltb (get_or (take k l) i 0) numbered ≡ false = le-ltb (get_or (take k l) i 0) numbered (rw (get_or-take k l i 0 h) e) in
    rw (all_not (λ d. ltb d numbered) (take k l) i 0 m b) (and-false (leb k most && rising (take k l)))

pub not_rising : (k : ℕ) (l : List ℕ) (i : ℕ) → suc i < k → suc i < length l → get_or l (suc i) 0 ≤ get_or l i 0 → sound_days k l ≡ false
not_rising k l i h n e =
    let m : suc i < length (take k l) = rw (length-take k l) (omega arith) in
    let r = falling (take k l) i m (rw (get_or-take k l (suc i) 0 h, get_or-take k l i 0 (omega arith)) e) in
    rw (r, and-false (leb k most))

-- ---- what a book keeps

numbers_fit : (l : List ℕ) → all in_time (map day_number l) ≡ true
numbers_fit [] = refl
numbers_fit (x ∷ l) = rw (lt-ltb _ _ (number_fits x)) (numbers_fit l)

-- The first of the kept days are those of the list, and sound where they rise.
pub kept_list : (l : List ℕ) → take (length l) (kept_days l) ≡ map day_number l
kept_list l = take_at (map day_number l) _ (length l) (length-map l day_number)

pub kept_sound : (l : List ℕ) → sound_days (length l) (kept_days l) ≡ (leb (length l) most && rising (map day_number l))
kept_sound l = rw (kept_list l, numbers_fit l) (and-true _)

-- After i turns the first i are kept.
abbrev pub Kept : List ℕ → ℕ → List ℕ
Kept l i = map day_number (take i l) ++ replicate (most - i) 0

pub kept_more : (l : List ℕ) (i : ℕ) → length l ≤ 64 → i < length l → (x : ℕ) → x ≡ day_number (get_or l i 0) → set (Kept l i) i x ≡ Kept l (i + 1)
kept_more l i h k x e =
    let front = map day_number (take i l) in
    let n : length front ≡ i = length-map (take i l) day_number ∙ length-take-le i l (omega arith) in
    let m : most - i ≡ suc (most - (i + 1)) = omega arith in
    let s : map day_number (take (i + 1) l) ≡ front ++ x ∷ [] = rw (add-one, e, take-suc l i 0 k) (map-append day_number (take i l) (get_or l i 0 ∷ [])) in
    rw (m, s) (set_at front 0 _ x i n ∙ sym (append_assoc front (x ∷ []) _))

pub kept_whole : (l : List ℕ) (i : ℕ) → i ≤ length l → length l ≤ i → Kept l i ≡ kept_days l
kept_whole l i h k = let e : i ≡ length l = omega arith in rw (e, take_all (length l) l (omega arith))

-- The sound ones are those of dates in order.
pub kept_order : (l days : List ℕ) → length l ≤ 64 → days ≡ kept_days l → sound_days (length l) days ≡ in_order l
kept_order l days h e = rw e (kept_sound l)
