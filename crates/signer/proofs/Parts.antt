-- Parts of byte strings that are written one behind the other.
use Prim.Native.Nat.{ℕ, zero, suc, ◌+◌, ◌*◌, ◌/◌, ◌%◌, ◌^◌, ◌≤◌, ◌<◌}
use native.Mathlib.Numerals.{add-one}
use native.Mathlib.Omega.{arith}
use mathlib.Core.Path.{◌≡◌, refl, ap, sym, ◌∙◌}
use mathlib.Core.Bool.{Bool, true, false}
use borrow.Author.Tests.{ltb-true, ltb-false}
use lib.Dec.{ltb}
use mathlib.Core.List.{List, ◌++◌, append-nil}
use lib.ListN.{length, take, drop, length-append, length-drop, replicate, length-replicate, replicate-append-replicate}
use lib.Seq.{take_at, drop_at, take_all, take-append-le, take-length, paste, drop-append-le, drop-append-add}
use Rattle.wire.specs.Numbers.{bytes, u32_at}
use Rattle.wire.specs.Parts.{part}
use Rattle.wire.proofs.Laws.{four, u32_behind}
use Rattle.lms.specs.Rows.{row}
use Rattle.lms.proofs.Laws.{row_more}

-- The last part, and a part before the last one.
module _ (a b : List ℕ) (at n : ℕ) where
  pub part_last : length a ≡ at → length b ≡ n → part (a ++ b) at n ≡ b
  part_last la lb = ap (take n) (drop_at a b at la) ∙ take_all n b (omega arith)

  pub part_front : at + n ≤ length a → part (a ++ b) at n ≡ part a at n
  part_front h =
      ap (take n) (drop-append-le at a b (omega arith)) ∙ take-append-le n (drop at a) b (omega (arith, length-drop at a))

-- A part of the second of two strings.
pub part_behind : (a b : List ℕ) (at k n : ℕ) → length a ≡ at → part (a ++ b) (at + k) n ≡ part b k n
part_behind a b at k n la = ap (λ (j : ℕ). part (a ++ b) (j + k) n) (sym la) ∙ ap (take n) (drop-append-add a b k)

-- A number below 2 ^ 32 is the sum of its four bytes.
summed : (x y z w : ℕ) → x < 2 ^ 32 → y ≡ x / 2 ^ 8 → z ≡ y / 2 ^ 8 → w ≡ z / 2 ^ 8 → w % 256 * 2 ^ 24 + z % 256 * 2 ^ 16 + y % 256 * 2 ^ 8 + x % 256 ≡ x
summed x y z w h p q r =
    let a : x ≡ 2 ^ 8 * y + x % 256 = omega arith in
    let b : y ≡ 2 ^ 8 * z + y % 256 = omega arith in
    let c : z ≡ 2 ^ 8 * w + z % 256 = omega arith in
    let d : w % 256 ≡ w = omega arith in
    omega (arith, a, b, c, d)

whole : (x : ℕ) → x < 2 ^ 32 → u32_at (bytes 4 x) 0 ≡ x
unfolding bytes u32_at
whole x h =
    let y : x / 2 ^ 8 / 2 ^ 8 ≡ x / 2 ^ 16 = omega arith in
    let z : x / 2 ^ 8 / 2 ^ 8 / 2 ^ 8 ≡ x / 2 ^ 24 = omega arith in
    let o : x % 256 ≡ x / 1 % 256 = omega arith in
    four _ _ _ _ _ _ _ _ (ap (λ (k : ℕ). k % 256) (sym z)) (ap (λ (k : ℕ). k % 256) (sym y)) refl (sym o) ∙ summed x (x / 2 ^ 8) _ _ h refl refl refl

pub u32_last : (a : List ℕ) (x at : ℕ) → length a ≡ at → x < 2 ^ 32 → u32_at (a ++ bytes 4 x) at ≡ x
u32_last a x at la h =
    let z : at + 0 ≡ at = omega arith in
    ap (u32_at (a ++ bytes 4 x)) (sym z) ∙ u32_behind a (bytes 4 x) at 0 la ∙ whole x h

-- A string that is written into zeros, behind what stands there.
pub put : (p b : List ℕ) (at n m : ℕ) → length p ≡ at → length b ≡ n → paste (p ++ replicate (n + m) 0) at b (length b) ≡ p ++ b ++ replicate m 0
put p b at n m lp lb =
    let z : List ℕ = replicate (n + m) 0 in
    let d : drop (at + length b) (p ++ z) ≡ replicate m 0 =
    ap (λ (k : ℕ). drop (k + length b) (p ++ z)) (sym lp)
    ∙ drop-append-add p z (length b)
    ∙ ap (λ (k : ℕ). drop k z) lb
    ∙ ap (drop n) (sym (replicate-append-replicate n m 0))
    ∙ drop_at (replicate n 0) (replicate m 0) n (length-replicate n 0) in
    ap (λ (l : List ℕ). l ++ take (length b) b ++ drop (at + length b) (p ++ z)) (take_at p z at lp)
    ∙ ap (λ (l : List ℕ). p ++ l ++ drop (at + length b) (p ++ z)) (take-length b)
    ∙ ap (λ (l : List ℕ). p ++ b ++ l) d

pub put_on : (p b k k' : List ℕ) (at n m : ℕ) → k ≡ p ++ replicate (n + m) 0 → k' ≡ paste k at b (length b) → length p ≡ at → length b ≡ n → k' ≡ p ++ b ++ replicate m 0
put_on p b k k' at n m e f lp lb = f ∙ ap (λ (l : List ℕ). paste l at b (length b)) e ∙ put p b at n m lp lb

-- The same strings in a row.
pub row_same : (f g : ℕ → List ℕ) (n : ℕ) → ((i : ℕ) → i < n → f i ≡ g i) → row f n ≡ row g n
unfolding row
row_same f g zero h = refl
row_same f g (suc n) h = cc (row_same f g n (λ i l. h i (omega arith)), h n (omega arith))

-- Strings of 32 bytes in a row.
module _ (f : ℕ → List ℕ) (sizes : (i : ℕ) → length (f i) ≡ 32) where
  pub row_length : (n : ℕ) → length (row f n) ≡ 32 * n
  unfolding row
  row_length zero = refl
  row_length (suc n) = length-append (row f n) (f n) ∙ omega (arith, row_length n, sizes n)

  pub row_part : (n i : ℕ) → i < n → part (row f n) (32 * i) 32 ≡ f i
  unfolding row
  row_part zero i h = absurd (omega arith)
  row_part (suc n) i h = go (ltb i n) refl (row_part n i) where
    go : (b : Bool) → ltb i n ≡ b → (i < n → part (row f n) (32 * i) 32 ≡ f i) → part (row f n ++ f n) (32 * i) 32 ≡ f i
    go true e before = part_front (row f n) (f n) (32 * i) 32 (omega (arith, row_length n, ltb-true i n e)) ∙ before (ltb-true i n e)
    go false e before =
        let k : i ≡ n = omega (arith, ltb-false i n e) in
        part_last (row f n) (f n) (32 * i) 32 (omega (arith, row_length n)) (sizes n) ∙ ap f (sym k)

-- A row that is being written behind a, before zeros: n strings of 32 bytes stand there.
pub record Writing (f : ℕ → List ℕ) (a : List ℕ) (rest n : ℕ) (s : List ℕ) : Type 0 where
  pub size : length (row f n) ≡ 32 * n
  pub whole : s ≡ a ++ row f n ++ replicate rest 0

pub writing_none : (f : ℕ → List ℕ) (a s : List ℕ) (rest : ℕ) → s ≡ a ++ replicate rest 0 → Writing f a rest 0 s
unfolding row
writing_none f a s rest e = record { size = refl; whole = e ∙ ap (λ (x : List ℕ). x ++ replicate rest 0) (sym (append-nil a)) }

pub writing_more : (f : ℕ → List ℕ) (a s t x : List ℕ) (rest left n at : ℕ) → Writing f a rest n s → x ≡ f n → length x ≡ 32 → rest ≡ 32 + left
    → length a + 32 * n ≡ at → t ≡ paste s at x (length x) → Writing f a left (n + 1) t
unfolding row
writing_more f a s t x rest left n at w e l r p q =
    record {
      size =
          ap (λ (k : ℕ). length (row f k)) (add-one n) ∙ length-append (row f n) (f n) ∙ omega (arith, w.size, ap length e);
      whole =
          put_on (a ++ row f n) x s t at 32 left (w.whole ∙ ap (λ (k : ℕ). a ++ row f n ++ replicate k 0) r) q (length-append a (row f n) ∙ omega (arith, w.size)) l
          ∙ ap (λ (y : List ℕ). y ++ replicate left 0) (row_more f a x n e);
    }
