-- Digits and half bytes, there and back.
use Prim.Native.Nat.{ℕ, zero, suc, ◌+◌, ◌*◌, ◌/◌, ◌%◌, ◌^◌, ◌≤◌, ◌<◌}
use native.Mathlib.Nat.{mod-one, mod-lt, mod-eq_of_lt, mul-le-mul_right, pow-succ', pow-suc, pow-le-pow_right, div-div-eq-div-mul, one-le-pow, zero-lt-suc}
use native.Mathlib.Numerals.{add-one}
use native.Mathlib.Omega.{arith}
use mathlib.Core.Path.{◌≡◌, refl, sym, ap, ◌∙◌}
use mathlib.Core.Bool.{Bool, true, ◌&&◌}
use mathlib.Core.List.{List, [], ◌∷◌, ◌++◌}
use borrow.Author.Tests.{leb-true, le-leb}
use lib.Arith.{digits_div, digits_mod, mod-mul}
use lib.Dec.{leb}
use lib.ListN.{length, get_or}
use Rattle.std.specs.Int.{w64, to_be_bytes, from_be_bytes}
use Rattle.std.proofs.lemmas.Nat.{be_bytes_8, pow-add}
use Rattle.std.proofs.Common.{add_comm}
use Rattle.wire.proofs.Laws.{both, and_both, and_make}
use Rattle.wire.specs.Parts.{all}
use Rattle.payments.specs.Packed.{digits, spelled, joined, halves, packed, is_digit}

-- ---- digits

pub ten_pos : (n : ℕ) → 0 < 10 ^ n
ten_pos n = one-le-pow n 10 (zero-lt-suc 9)

pub digits_length : (n a : ℕ) → length (digits n a) ≡ n
unfolding digits
digits_length zero a = refl
digits_length (suc n) a = ap suc (digits_length n a)

pub digits_are : (n a : ℕ) → all is_digit (digits n a) ≡ true
unfolding digits
digits_are zero a = refl
digits_are (suc n) a = and_make (le-leb (a / 10 ^ n % 10) 9 (omega arith)) (digits_are n a)

-- A remainder by a power of ten, by its first digit.
by_first : (n a : ℕ) → a % 10 ^ suc n ≡ (a / 10 ^ n % 10) * 10 ^ n + a % 10 ^ n
by_first n a = rw (pow-succ' 10 n) (mod-mul a {m = 10} {c = 10 ^ n} (omega arith) (ten_pos n))

pub spelled_digits : (n a : ℕ) → spelled (digits n a) ≡ a % 10 ^ n
unfolding digits spelled
spelled_digits zero a = sym (mod-one a)
spelled_digits (suc n) a = rw (digits_length n a, spelled_digits n a) (sym (by_first n a))

-- Numbers with one remainder have the same last digits.
module _ (n a b : ℕ) (e : a % 10 ^ suc n ≡ b % 10 ^ suc n) where
  whole : (a / 10 ^ n % 10) * 10 ^ n + a % 10 ^ n ≡ (b / 10 ^ n % 10) * 10 ^ n + b % 10 ^ n
  whole = sym (by_first n a) ∙ e ∙ by_first n b

  first_same : a / 10 ^ n % 10 ≡ b / 10 ^ n % 10
  first_same =
      sym (digits_div (a / 10 ^ n % 10) (mod-lt a (ten_pos n))) ∙ ap (λ (x : ℕ). x / 10 ^ n) whole ∙ digits_div (b / 10 ^ n % 10) (mod-lt b (ten_pos n))

  others_same : a % 10 ^ n ≡ b % 10 ^ n
  others_same =
      sym (digits_mod (a / 10 ^ n % 10) (mod-lt a (ten_pos n))) ∙ ap (λ (x : ℕ). x % 10 ^ n) whole ∙ digits_mod (b / 10 ^ n % 10) (mod-lt b (ten_pos n))

same_digits : (n a b : ℕ) → a % 10 ^ n ≡ b % 10 ^ n → digits n a ≡ digits n b
unfolding digits
same_digits zero a b e = refl
same_digits (suc n) a b e = both (first_same n a b e) (same_digits n a b (others_same n a b e))

pub spelled_below : (ds : List ℕ) → all is_digit ds ≡ true → spelled ds < 10 ^ length ds
unfolding spelled
spelled_below [] h = ten_pos 0
spelled_below (d ∷ ds) h =
    let k = and_both (is_digit d) (all is_digit ds) h in
    rw (pow-succ' 10 (length ds)) (below d (10 ^ length ds) (spelled ds) (leb-true d 9 k.0) (spelled_below ds k.1))
  where
    below : (d m r : ℕ) → d ≤ 9 → r < m → d * m + r < 10 * m
    below d m r p q = let e : d * m ≤ 9 * m = mul-le-mul_right m p in omega arith

pub digits_spelled : (ds : List ℕ) → all is_digit ds ≡ true → digits (length ds) (spelled ds) ≡ ds
unfolding digits spelled
digits_spelled [] h = refl
digits_spelled (d ∷ ds) h =
    let k = and_both (is_digit d) (all is_digit ds) h in
    let n = length ds in
    let r = spelled_below ds k.1 in
    let nine : d ≤ 9 = leb-true d 9 k.0 in
    let m : spelled ds % 10 ^ n ≡ spelled ds = mod-eq_of_lt r in
    both (ap (λ (x : ℕ). x % 10) (digits_div d r) ∙ omega arith)
    (same_digits n (d * 10 ^ n + spelled ds) (spelled ds) (digits_mod d r ∙ sym m) ∙ digits_spelled ds k.1)

-- ---- half bytes

pub joined_halves : (bs : List ℕ) → joined (halves bs) ≡ bs
unfolding joined halves
joined_halves [] = refl
joined_halves (b ∷ bs) = both (omega arith) (joined_halves bs)

abbrev pub is_half : ℕ → Bool
is_half h = leb h 15

pub halves_joined : (k : ℕ) (hs : List ℕ) → length hs ≡ 2 * k → all is_half hs ≡ true → halves (joined hs) ≡ hs
unfolding joined halves
halves_joined k [] e h = refl
halves_joined k (x ∷ []) e h = absurd (omega arith)
halves_joined zero (x ∷ y ∷ hs) e h = absurd (omega arith)
halves_joined (suc k) (x ∷ y ∷ hs) e h =
    let p = and_both (is_half x) (is_half y && all is_half hs) h in
    let q = and_both (is_half y) (all is_half hs) p.1 in
    let l : y ≤ 15 = leb-true y 15 q.0 in
    both (omega arith) (both (omega arith) (halves_joined k hs (omega arith) q.1))

-- Digits, and C after them.
pub halves_all : (l : List ℕ) → all is_digit l ≡ true → all is_half (l ++ (0xC ∷ [])) ≡ true
halves_all [] h = refl
halves_all (x ∷ l) h =
    let k = and_both (is_digit x) (all is_digit l) h in
    let n : x ≤ 9 = leb-true x 9 k.0 in
    and_make (le-leb x 15 (omega arith)) (halves_all l k.1)

joined_small : (hs : List ℕ) → all is_half hs ≡ true → (i : ℕ) → get_or (joined hs) i 0 < 256
unfolding joined
joined_small [] h i = omega arith
joined_small (x ∷ []) h i = omega arith
joined_small (x ∷ y ∷ hs) h zero =
    let p = and_both (is_half x) (is_half y && all is_half hs) h in
    let k : x ≤ 15 = leb-true x 15 p.0 in
    let l : y ≤ 15 = leb-true y 15 (and_both (is_half y) (all is_half hs) p.1).0 in
    omega arith
joined_small (x ∷ y ∷ hs) h (suc i) =
    let p = and_both (is_half x) (is_half y && all is_half hs) h in
    joined_small hs (and_both (is_half y) (all is_half hs) p.1).1 i

-- ---- half bytes as one number

-- The last n digits of a number, each in half a byte.
abbrev pub hexed : ℕ → ℕ → ℕ
hexed zero a = 0
hexed (suc n) a = (a / 10 ^ n % 10) * 2 ^ (4 * n) + hexed n a

pub hexed_next : (n a r h : ℕ) → r ≡ a / 10 ^ n → h ≡ hexed n a → h + (r % 10) * 2 ^ (4 * n) ≡ hexed (n + 1) a
hexed_next n a r h e k = rw (add-one, e, k) (add_comm (hexed n a) (a / 10 ^ n % 10 * 2 ^ (4 * n)))

pub rest_next : (n a r : ℕ) → r ≡ a / 10 ^ n → r / 10 ≡ a / 10 ^ (n + 1)
rest_next n a r e = rw (e, add-one, pow-suc 10 n) (div-div-eq-div-mul a (10 ^ n) 10)

sixteen : (n : ℕ) → 2 ^ (4 * suc n) ≡ 16 * 2 ^ (4 * n)
sixteen n = let e : 4 * suc n ≡ 4 + 4 * n = omega arith in rw (e, pow-add 2 4 (4 * n)) refl

hexed_small : (n a : ℕ) → hexed n a < 2 ^ (4 * n)
hexed_small zero a = omega arith
hexed_small (suc n) a = rw (sixteen n) (next (a / 10 ^ n % 10) (2 ^ (4 * n)) (hexed n a) (omega arith) (hexed_small n a))
  where
    next : (d m h : ℕ) → d ≤ 9 → h < m → d * m + h < 16 * m
    next d m h p q = let e : d * m ≤ 9 * m = mul-le-mul_right m p in omega arith

-- Within 64 bits.
pub hexed_fits : (n a : ℕ) → n ≤ 15 → hexed n a < 2 ^ 60
hexed_fits n a h = let p : 2 ^ (4 * n) ≤ 2 ^ 60 = pow-le-pow_right {n = 2} (omega arith) {j = 60} (omega arith) in omega (arith, hexed_small n a)

shifted_fits : (n d : ℕ) → n < 15 → d ≤ 9 → d * 2 ^ (4 * n) < 2 ^ 64
shifted_fits n d h k =
    let p : 2 ^ (4 * n) ≤ 2 ^ 56 = pow-le-pow_right {n = 2} (omega arith) {j = 56} (omega arith) in
    let e : d * 2 ^ (4 * n) ≤ 9 * 2 ^ (4 * n) = mul-le-mul_right (2 ^ (4 * n)) k in omega arith

pub shifted : (n d : ℕ) → n < 15 → d ≤ 9 → d * 2 ^ (4 * n) % 2 ^ 64 ≡ d * 2 ^ (4 * n)
shifted n d h k = mod-eq_of_lt (shifted_fits n d h k)

-- All fifteen, and C.
module _ (d₀ d₁ d₂ d₃ d₄ d₅ d₆ d₇ d₈ d₉ da db dc dd de : ℕ) where
  in_bytes : 16 * (de * 2 ^ 56 + (dd * 2 ^ 52 + (dc * 2 ^ 48 + (db * 2 ^ 44 + (da * 2 ^ 40 + (d₉ * 2 ^ 36 + (d₈ * 2 ^ 32 + (d₇ * 2 ^ 28 + (d₆ * 2 ^ 24 + (d₅ * 2 ^ 20 + (d₄ * 2 ^ 16 + (d₃ * 2 ^ 12 + (d₂ * 2 ^ 8 + (d₁ * 2 ^ 4 + (d₀ * 1 + 0))))))))))))))) + 12
      ≡ from_be_bytes w64 ((16 * de + dd) ∷ (16 * dc + db) ∷ (16 * da + d₉) ∷ (16 * d₈ + d₇) ∷ (16 * d₆ + d₅) ∷ (16 * d₄ + d₃) ∷ (16 * d₂ + d₁) ∷ (16 * d₀ + 12) ∷ [])
  in_bytes = omega arith

pub packed_number : (a h : ℕ) → h ≡ hexed 15 a → to_be_bytes w64 (16 * h + 12) ≡ packed a
unfolding packed digits joined
packed_number a h e =
    be_bytes_8 (packed a) (16 * h + 12) refl (joined_small (digits 15 a ++ (0xC ∷ [])) (halves_all (digits 15 a) (digits_are 15 a))) (rw e (in_bytes _ _ _ _ _ _ _ _ _ _ _ _ _ _ _))
