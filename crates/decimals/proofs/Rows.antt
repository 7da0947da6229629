-- Rows of numbers, number by number.
use Rattle.std.proofs.Common.{◌≡◌, ℕ, ◌+◌, ◌<◌, ◌≤◌, List, [], ◌∷◌, ◌++◌, append_assoc, append-nil, add-one, arith, length-append, get_or, length, take, refl, sym, ap, ◌∙◌}
use Rattle.std.proofs.Math.Seq.{take-suc, take_all}
use Rattle.wire.specs.Parts.{pasted}
use Rattle.wire.proofs.Pasting.{length-pasted, pasted_more}
use Rattle.decimals.specs.Numbers.{decimal, closer, row}

-- Numbers that others follow: each with a blank after it.
unfoldable pub blanked : List ℕ → List ℕ
blanked [] = []
blanked (n ∷ ns) = (decimal n ++ (32 ∷ [])) ++ blanked ns

pub none_yet : (t : List ℕ) → t ++ blanked [] ≡ t
unfolding blanked
none_yet t = append-nil t

blanked_more : (ns : List ℕ) (n : ℕ) → blanked (ns ++ (n ∷ [])) ≡ blanked ns ++ (decimal n ++ (32 ∷ []))
unfolding blanked
blanked_more [] n = append-nil (decimal n ++ (32 ∷ []))
blanked_more (m ∷ ns) n = rw (blanked_more ns n) (sym (append_assoc (decimal m ++ (32 ∷ [])) (blanked ns) (decimal n ++ (32 ∷ []))))

-- The first so many, and one more.
pub blanked_take : (ns : List ℕ) (i : ℕ) → i < length ns → blanked (take (i + 1) ns) ≡ blanked (take i ns) ++ (decimal (get_or ns i 0) ++ (32 ∷ []))
blanked_take ns i h = rw (add-one, take-suc ns i 0 h) (blanked_more (take i ns) (get_or ns i 0))

pub row_none : (t ns : List ℕ) → length ns ≡ 0 → t ++ row ns ≡ t
unfolding row
row_none t [] h = append-nil t
row_none t (n ∷ ns) h = absurd (omega arith)

row_last : (ns : List ℕ) (n : ℕ) → row (ns ++ (n ∷ [])) ≡ blanked ns ++ (decimal n ++ (10 ∷ []))
unfolding blanked row closer
row_last [] n = refl
row_last (m ∷ []) n = simp append_assoc
row_last (m ∷ (k ∷ ns)) n = ap (λ (t : List ℕ). decimal m ++ (32 ∷ t)) (row_last (k ∷ ns) n) ∙ simp append_assoc

-- The last number closes the row.
pub row_closed : (ns all : List ℕ) (n i : ℕ) → all ≡ ns ++ (n ∷ []) → length ns ≤ i → row all ≡ blanked (take i ns) ++ (decimal n ++ (10 ∷ []))
row_closed ns all n i e h = rw (e, take_all i ns h) (row_last ns n)

-- ---- a row at a place

-- A text, and another where it ends.
pub put_after : (d out more s t u : List ℕ) (at place next : ℕ) → out ≡ pasted d at s → place ≡ at + length s → more ≡ pasted out place t → next ≡ place + length t
    → next ≤ length d → u ≡ s ++ t → (length more ≡ length d) × (more ≡ pasted d at u) × (next ≡ at + length u)
put_after d out more s t u at place next o p m n h e =
    let b : at + length s ≤ length d = omega arith in
    let w : pasted out place t ≡ pasted d at (s ++ t) = rw (o, p) (pasted_more d at s t b) in
    let v : more ≡ pasted d at u = m ∙ w ∙ ap (pasted d at) (sym e) in
    let l : next ≡ at + length u = omega (arith, ap length e, length-append s t) in
    (ap length v ∙ length-pasted d at u (omega arith), v, l)
