-- The fewest digits of a number, as `io::decimal` promises them, are its text.
use Prim.Native.Nat.{ℕ, zero, suc, ◌-◌, ◌/◌, ◌%◌, ◌^◌, ◌≤◌, ◌<◌}
use native.Mathlib.Nat.{pow-suc}
use native.Mathlib.Omega.{arith}
use mathlib.Core.Path.{◌≡◌, refl, ap, ◌∙◌}
use mathlib.Core.Bool.{Bool, true, false, cond}
use mathlib.Core.List.{[], ◌∷◌, ◌++◌}
use borrow.Author.Tests.{ltb-true, ltb-false, lt-ltb}
use lib.Dec.{ltb}
use Rattle.io.specs.Digits.{hex_digit_ascii, last_digits, IsDigitCount}
use Rattle.decimals.specs.Numbers.{digit, spelled, decimal}

ten_pos : (m : ℕ) → 1 ≤ 10 ^ m
ten_pos zero = omega arith
ten_pos (suc m) = omega (arith, ten_pos m, pow-suc 10 m)

-- The last digit.
last : (n : ℕ) → hex_digit_ascii (n % 10) ≡ digit (n % 10)
last n = let h : n % 10 < 10 = omega arith in simp (lt-ltb (n % 10) 10 h)

-- ---- one digit

least : (n j : ℕ) → IsDigitCount 10 1 n (suc (suc j)) → 10 ^ suc j ≤ n
least n j f = let e : suc (suc j) - 1 ≡ suc j = omega arith in rw e at (f.2 (omega arith))

one : (n k : ℕ) → n < 10 → IsDigitCount 10 1 n k → last_digits 10 k n ≡ digit n ∷ []
one n zero h f = absurd (omega (arith, f.0))
one n (suc zero) h f = let e : n % 10 ≡ n = omega arith in ap (λ (x : ℕ). x ∷ []) (last n ∙ ap digit e)
one n (suc (suc j)) h f = absurd (omega (arith, least n j f, pow-suc 10 j, ten_pos j))

-- ---- more digits

tenth : (n j : ℕ) → IsDigitCount 10 1 n (suc (suc j)) → IsDigitCount 10 1 (n / 10) (suc j)
tenth n j f = (
  omega arith,
  omega (arith, f.1, pow-suc 10 (suc j)),
  λ h. let e : suc j - 1 ≡ j = omega arith in rw e (omega (arith, least n j f, pow-suc 10 j)),
)

-- The digits of n are those of its tenth and the last one, given the law of the tenth.
more : (f n k : ℕ) → 10 ≤ n → n ≤ suc f → IsDigitCount 10 1 n k → ((j : ℕ) → n / 10 ≤ f → IsDigitCount 10 1 (n / 10) j → last_digits 10 j (n / 10) ≡ spelled f (n / 10))
    → last_digits 10 k n ≡ spelled f (n / 10) ++ (digit (n % 10) ∷ [])
more f n zero h l w r = absurd (omega (arith, w.0))
more f n (suc zero) h l w r = absurd (omega (arith, w.1))
more f n (suc (suc j)) h l w r =
    let e = r (suc j) (omega arith) (tenth n j w) in
    rw (e, last n)

spelled_law : (f n k : ℕ) → n ≤ f → IsDigitCount 10 1 n k → last_digits 10 k n ≡ spelled f n
unfolding spelled
spelled_law zero n k l w = one n k (omega arith) w
spelled_law (suc f) n k l w = by_test (ltb n 10) refl (λ j. spelled_law f (n / 10) j)
  where
    by_test : (x : Bool) → ltb n 10 ≡ x → ((j : ℕ) → n / 10 ≤ f → IsDigitCount 10 1 (n / 10) j → last_digits 10 j (n / 10) ≡ spelled f (n / 10))
        → last_digits 10 k n ≡ cond x (digit n ∷ []) (spelled f (n / 10) ++ (digit (n % 10) ∷ []))
    by_test true e r = one n k (ltb-true n 10 e) w
    by_test false e r = more f n k (ltb-false n 10 e) l w r

pub decimal_law : (n k : ℕ) → IsDigitCount 10 1 n k → last_digits 10 k n ≡ decimal n
unfolding decimal
decimal_law n k w = spelled_law n n k (omega arith) w
