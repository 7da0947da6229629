-- Bytes that are read to a place.
use Rattle.std.proofs.Common.{◌≡◌, ℕ, ◌+◌, ◌≤◌, List, ◌++◌, Option, sym, ap, ◌∙◌, arith, length, take, subst}
use Rattle.std.specs.Io.KnownBytes.{Consumes}
use Rattle.std.proofs.KnownBytes.{Consumes-trans}
use borrow.Rule.Slice.PartMut.{put_mid, post_of}
use lib.ListN.{length-take}
use lib.Seq.{take-append-add, take-append-le}

pub length_take : (n : ℕ) (xs : List ℕ) → n ≤ length xs → length (take n xs) ≡ n
length_take n xs h = length-take n xs ∙ omega arith

-- After a read to place n, of m bytes.
pub taken_on : (n k m : ℕ) (xs ys : List ℕ) → n ≤ length xs → m ≤ length ys → take (n + m) (put_mid n k xs ys) ≡ take n xs ++ take m ys
taken_on n k m xs ys h b =
    let after = post_of n k xs in
    ap (λ (i : ℕ). take (i + m) (put_mid n k xs ys)) (sym (length_take n xs h))
    ∙ take-append-add (take n xs) (ys ++ after) m
    ∙ ap (λ (l : List ℕ). take n xs ++ l) (take-append-le m ys after b)

-- What was read before, and then m bytes more.
pub consumed_on : (a b c : Option (List ℕ)) (n k m : ℕ) (xs ys : List ℕ) → n ≤ length xs → m ≤ length ys → Consumes a b (take n xs) → Consumes b c (take m ys)
    → Consumes a c (take (n + m) (put_mid n k xs ys))
consumed_on a b c n k m xs ys h l p q = subst (Consumes a c) (sym (taken_on n k m xs ys h l)) (Consumes-trans a b c (take n xs) (take m ys) p q)
