-- Laws of truth values, of copies, of equal byte strings, of numbers in them and of arrays.
use Prim.Native.Nat.{ℕ, suc, zero, ◌+◌, ◌-◌, ◌*◌, ◌^◌, ◌≤◌, ◌<◌}
use native.Mathlib.Nat.{add-sub_cancel_left, add-zero, add_assoc}
use native.Mathlib.Omega.{arith}
use mathlib.Core.Path.{◌≡◌, refl, sym, ap, ◌∙◌}
use mathlib.Core.Bool.{Bool, true, false, true≢false, false≢true, ◌&&◌, ◌||◌, and-true, and_assoc}
use mathlib.Core.List.{List, [], ◌∷◌, ◌++◌, append-nil, map}
use lib.Dec.{eqb}
use lib.Pointwise.{pointwise}
use Rattle.std.specs.Prelude.{slice_index, nat_eq}
use borrow.Author.Tests.{eq-eqb}
use lib.ListN.{length, take, drop, get_or, drop_of_length-le, length-take, length-drop, length-map, get_or-append}
use lib.Seq.{paste, take-length, get_or-append-add, get_or-take, get_or-drop}
use Rattle.wire.specs.Numbers.{bytes, u32_at}
use Rattle.wire.specs.Parts.{part, same}

-- Two lists, head and tail.
pub both : {x y : ℕ} {xs ys : List ℕ} → x ≡ y → xs ≡ ys → x ∷ xs ≡ y ∷ ys
both p q = cc

-- Two tests that both say yes, and what they say.
pub and_both : (a b : Bool) → (a && b) ≡ true → (a ≡ true) × (b ≡ true)
and_both true b h = (refl, h)
and_both false b h = absurd (false≢true h)

pub and_make : {a b : Bool} → a ≡ true → b ≡ true → (a && b) ≡ true
and_make p q = rw (p, q)

pub clash : {x : Bool} → x ≡ true → x ≡ false → ⊥
clash p q = true≢false (sym p ∙ q)

pub or_neither : (a b : Bool) → (a || b) ≡ false → (a ≡ false) × (b ≡ false)
or_neither true b h = absurd (true≢false h)
or_neither false b h = (refl, h)

pub or_other : (a b : Bool) → (a || b) ≡ true → a ≡ false → b ≡ true
or_other true b h n = absurd (true≢false n)
or_other false b h n = h

pub or_right : (a b : Bool) → b ≡ true → (a || b) ≡ true
or_right true b h = refl
or_right false b h = h

pub same_refl : (l : List ℕ) → same l l ≡ true
unfolding same
same_refl [] = refl
same_refl (x ∷ l) = and_make (eq-eqb x x refl) (same_refl l)

pub same_none : (a b : List ℕ) → true ≡ same (take 0 a) (take 0 b)
unfolding same
same_none a b = refl

pub same_more : (a b : List ℕ) (i : ℕ) → i < length a → i < length b
    → (same (take i a) (take i b) && eqb (get_or a i 0) (get_or b i 0)) ≡ same (take (suc i) a) (take (suc i) b)
unfolding same
same_more [] b i p q = absurd (omega arith)
same_more (x ∷ xs) [] i p q = absurd (omega arith)
same_more (x ∷ xs) (y ∷ ys) zero p q = sym (and-true (eqb x y))
same_more (x ∷ xs) (y ∷ ys) (suc i) p q =
    and_assoc (eqb x y) (same (take i xs) (take i ys)) (eqb (get_or xs i 0) (get_or ys i 0))
    ∙ ap (λ (t : Bool). eqb x y && t) (same_more xs ys i (omega arith) (omega arith))

-- A copy over the whole.
paste_whole : (d s : List ℕ) → length d ≡ length s → paste d 0 s (length s) ≡ s
paste_whole d s e =
    let h : length d ≤ 0 + length s = omega arith in
    simp (take-length, drop_of_length-le d h, append-nil)

-- What is copied from a part of s into a whole array of n bytes.
pub copied_part : (d s : List ℕ) (at n : ℕ) → length d ≡ n → at + n ≤ length s
    → paste d 0 (part s at (at + n - at)) (length (part s at (at + n - at))) ≡ part s at n
copied_part d s at n e h = rw add-sub_cancel_left (paste_whole d (part s at n) (simp (length-take, length-drop) (omega arith)))

-- An array of structs: what owning it tells is of the machine's values.
pub length_of_map : (X Y : Type 0) (f : X → Y) (l : List X) (n : ℕ) → length (map f l) ≡ n → length l ≡ n
length_of_map X Y f l n e = sym (length-map l f) ∙ e

-- A number in n bytes.
pub bytes_length : (n x : ℕ) → length (bytes n x) ≡ n
unfolding bytes
bytes_length zero x = refl
bytes_length (suc n) x = ap suc (bytes_length n x)

-- Numbers of four bytes, byte by byte.
pub four : (a b c d a' b' c' d' : ℕ) → a ≡ a' → b ≡ b' → c ≡ c' → d ≡ d' → a * 2 ^ 24 + b * 2 ^ 16 + c * 2 ^ 8 + d ≡ a' * 2 ^ 24 + b' * 2 ^ 16 + c' * 2 ^ 8 + d'
four a b c d a' b' c' d' p q r s = cc

-- A number in the first of two strings, and one in the second.
pub u32_front : (a b : List ℕ) (at : ℕ) → at + 4 ≤ length a → u32_at (a ++ b) at ≡ u32_at a at
unfolding u32_at
u32_front a b at h =
    four _ _ _ _ _ _ _ _ (get_or-append a b 0 at (omega arith)) (get_or-append a b 0 (at + 1) (omega arith)) (get_or-append a b 0 (at + 2) (omega arith))
    (get_or-append a b 0 (at + 3) (omega arith))

pub u32_behind : (a b : List ℕ) (n k : ℕ) → length a ≡ n → u32_at (a ++ b) (n + k) ≡ u32_at b k
unfolding u32_at
u32_behind a b n k l = four _ _ _ _ _ _ _ _ (at (n + k) k (omega arith)) (at (n + k + 1) (k + 1) (omega arith)) (at (n + k + 2) (k + 2) (omega arith)) (at (n + k + 3) (k + 3) (omega arith)) where
  at : (i j : ℕ) → i ≡ length a + j → get_or (a ++ b) i 0 ≡ get_or b j 0
  at i j e = ap (λ (m : ℕ). get_or (a ++ b) m 0) e ∙ get_or-append-add a b j 0

-- A byte of a part, by its place in the whole.
pub in_part : (r s : List ℕ) (at n i : ℕ) → r ≡ part s at n → i < n → slice_index r i ≡ get_or s (at + i) 0
in_part r s at n i e h = ap (λ (l : List ℕ). get_or l i 0) e ∙ get_or-take n (drop at s) i 0 h ∙ get_or-drop at s i 0

pub at_part : (r s : List ℕ) (at n : ℕ) → r ≡ part s at n → 0 < n → slice_index r 0 ≡ get_or s at 0
at_part r s at n e h = in_part r s at n 0 e h ∙ ap (λ (i : ℕ). get_or s i 0) (add-zero at)

pub further_part : (r s : List ℕ) (at n i k : ℕ) → r ≡ part s at n → i + k < n → slice_index r (i + k) ≡ get_or s (at + i + k) 0
further_part r s at n i k e h = in_part r s at n (i + k) e h ∙ ap (λ (j : ℕ). get_or s j 0) (sym (add_assoc at i k))

-- The test of the library's arrays.
pub same_pointwise : (a b : List ℕ) → pointwise nat_eq a b ≡ same a b
unfolding same
same_pointwise [] [] = refl
same_pointwise [] (y ∷ ys) = refl
same_pointwise (x ∷ xs) [] = refl
same_pointwise (x ∷ xs) (y ∷ ys) = ap (λ (t : Bool). eqb x y && t) (same_pointwise xs ys)
