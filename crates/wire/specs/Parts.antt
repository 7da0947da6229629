-- Parts of a byte string, a list over another, a test of all of a list, and whether two byte strings are equal.
use Rattle.std.specs.Prelude.{ℕ, Bool, true, false, ◌&&◌, List, [], ◌∷◌, eqb, length, take, drop}
use Rattle.std.proofs.Math.Seq.{paste}

-- The n bytes of s from place at on.
abbrev pub part : List ℕ → ℕ → ℕ → List ℕ
part s at n = take n (drop at s)

-- The list d with t over it from place at on.
unfoldable pub pasted : {A : Type 0} → List A → ℕ → List A → List A
pasted d at t = paste d at t (length t)

abbrev pub all : {A : Type 0} → (A → Bool) → List A → Bool
all p [] = true
all p (x ∷ l) = p x && all p l

unfoldable pub same : List ℕ → List ℕ → Bool
same [] [] = true
same [] (y ∷ ys) = false
same (x ∷ xs) [] = false
same (x ∷ xs) (y ∷ ys) = eqb x y && same xs ys
