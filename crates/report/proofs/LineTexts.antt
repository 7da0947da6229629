-- Lines as text, one after another.
use Rattle.std.proofs.Common.{◌≡◌, ℕ, suc, ◌+◌, ◌<◌, ◌≤◌, List, [], ◌∷◌, ◌++◌, append_assoc, append-nil, add-one, arith, get_or, length, take, length-take, ap, ◌∙◌}
use Rattle.std.proofs.Math.Seq.{take-suc, take_all}
use Rattle.journal.specs.declared.lines.Line.{Line}
use Rattle.decimals.specs.Numbers.{row}
use Rattle.report.specs.Lines.{fields, lines_from}

pub lines_append : (n : ℕ) (ls ms : List Line) → lines_from n (ls ++ ms) ≡ lines_from n ls ++ lines_from (n + length ls) ms
unfolding lines_from
lines_append n [] ms = ap (λ (k : ℕ). lines_from k ms) (omega arith)
lines_append n (l ∷ ls) ms =
    let e : suc n + length ls ≡ n + suc (length ls) = omega arith in
    rw (lines_append (suc n) ls ms, e, append_assoc)

pub no_lines_yet : (t : List ℕ) (n : ℕ) → t ++ lines_from n [] ≡ t
unfolding lines_from
no_lines_yet t n = append-nil t

one_line : (n : ℕ) (l : Line) → lines_from n (l ∷ []) ≡ row (fields n l)
unfolding lines_from
one_line n l = append-nil (row (fields n l))

-- The first i lines, and one more.
pub lines_take : (n : ℕ) (ls : List Line) (i : ℕ) (d : Line) → i < length ls → lines_from n (take (i + 1) ls) ≡ lines_from n (take i ls) ++ row (fields (n + i) (get_or ls i d))
lines_take n ls i d h =
    let k : length (take i ls) ≡ i = length-take i ls ∙ omega arith in
    rw (add-one, take-suc ls i d h, lines_append n (take i ls) (get_or ls i d ∷ []), k) (ap (λ (t : List ℕ). lines_from n (take i ls) ++ t) (one_line (n + i) (get_or ls i d)))

-- All of them.
pub lines_all : (n : ℕ) (ls : List Line) (i : ℕ) → length ls ≤ i → lines_from n (take i ls) ≡ lines_from n ls
lines_all n ls i h = ap (lines_from n) (take_all i ls h)
