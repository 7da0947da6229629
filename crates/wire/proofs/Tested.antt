-- A test of all of a list, one by one.
use mathlib.Core.Path.{◌≡◌, refl, sym, ap, ◌∙◌}
use mathlib.Core.Bool.{Bool, true, false, ◌&&◌, and-true, and-false, and_assoc}
use mathlib.Core.List.{List, [], ◌∷◌, map}
use Prim.Native.Nat.{ℕ, zero, suc, ◌+◌, ◌≤◌, ◌<◌}
use native.Mathlib.Numerals.{add-one}
use native.Mathlib.Omega.{arith}
use lib.ListN.{length, take, get_or}
use lib.Seq.{take_all}
use Rattle.std.specs.List.{list_all}
use Rattle.wire.specs.Parts.{all}
use Rattle.wire.proofs.Laws.{and_both}

-- The library's test.
pub list_all_is_all : {A : Type 0} (p : A → Bool) (l : List A) → list_all p l ≡ all p l
list_all_is_all p [] = refl
list_all_is_all p (x ∷ l) = ap (λ (t : Bool). p x && t) (list_all_is_all p l)

-- It holds at any place: past the end the default stands in.
pub all_at : {A : Type 0} (p : A → Bool) (l : List A) (i : ℕ) (d : A) → p d ≡ true → all p l ≡ true → p (get_or l i d) ≡ true
all_at p [] i d o e = o
all_at p (x ∷ l) zero d o e = (and_both (p x) (all p l) e).0
all_at p (x ∷ l) (suc i) d o e = all_at p l i d o (and_both (p x) (all p l) e).1

-- It fails where one fails.
pub all_not : {A : Type 0} (p : A → Bool) (l : List A) (i : ℕ) (d : A) → i < length l → p (get_or l i d) ≡ false → all p l ≡ false
all_not p [] i d h e = let z : ⊥ = omega arith in absurd z
all_not p (x ∷ l) zero d h e = rw e
all_not p (x ∷ l) (suc i) d h e = rw (all_not p l i d (omega arith) e) (and-false (p x))

pub all_more : {A : Type 0} (p : A → Bool) (l : List A) (i : ℕ) (d : A) → i < length l → (all p (take i l) && p (get_or l i d)) ≡ all p (take (suc i) l)
all_more p [] i d h = let z : ⊥ = omega arith in absurd z
all_more p (x ∷ l) zero d h = sym (and-true (p x))
all_more p (x ∷ l) (suc i) d h = and_assoc (p x) (all p (take i l)) (p (get_or l i d)) ∙ ap (λ (t : Bool). p x && t) (all_more p l i d (omega arith))

pub all_map : {A B : Type 0} (f : A → B) (p : B → Bool) (l : List A) → all (λ x. p (f x)) l ≡ all p (map f l)
all_map f p [] = refl
all_map f p (x ∷ l) = ap (λ (t : Bool). p (f x) && t) (all_map f p l)

-- After i turns the flag says whether the first i pass.
module _ {A : Type 0} (p : A → Bool) (l : List A) (ok : Bool) (i : ℕ) (t : ok ≡ all p (take i l)) where
  pub tested_next : (d : A) (x : Bool) → i < length l → x ≡ p (get_or l i d) → (ok && x) ≡ all p (take (i + 1) l)
  tested_next d x h e = rw (t, e, add-one) (all_more p l i d h)

  pub tested_whole : length l ≤ i → ok ≡ all p l
  tested_whole h = t ∙ ap (all p) (take_all i l h)
