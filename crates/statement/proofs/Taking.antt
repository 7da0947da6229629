-- What the bytes that were read say of all the bytes that a reader had.
use Rattle.std.proofs.Common.{◌≡◌, ℕ, ◌≤◌, ◌⊎◌, inl, inr, List, [], ◌++◌, Option, None, Some, IfSome, sym, ap, ◌∙◌, subst, append-nil, arith, length, take}
use lib.Seq.{take_all, take-append-le}
use Rattle.streams.proofs.Taking.{length_take}
use Rattle.std.specs.Io.KnownBytes.{Appends, Consumes, IsAtEnd}
use Rattle.report.specs.Statement.{statement_of}
use Rattle.report.proofs.Joined.{no_further}

-- The first n bytes have the statement of all that there are: n is 65,537, or there are no more.
same_statement : (xs buf rest : List ℕ) (n : ℕ) → n ≤ length buf → xs ≡ take n buf ++ rest
    → (n ≡ 65537) ⊎ (rest ≡ []) → statement_of (take n buf) ≡ statement_of xs
same_statement xs buf rest n h e (inl full) =
    let k : 65537 ≤ length (take n buf) = omega (arith, length_take n buf h) in
    let t : take 65537 xs ≡ take n buf =
    ap (take 65537) e ∙ take-append-le 65537 (take n buf) rest k ∙ take_all 65537 (take n buf) (omega (arith, length_take n buf h)) in
    sym (ap statement_of t) ∙ no_further xs
same_statement xs buf rest n h e (inr none) = ap statement_of (sym (e ∙ ap (λ (r : List ℕ). take n buf ++ r) none ∙ append-nil (take n buf)))

pub whole_statement : (u v a b : Option (List ℕ)) (buf : List ℕ) (n : ℕ) → n ≤ length buf → Consumes u v (take n buf)
    → (n ≡ 65537) ⊎ IsAtEnd v → Appends a b (statement_of (take n buf)) → IfSome u (λ xs. Appends a b (statement_of xs))
whole_statement None v a b buf n h c e w = tt
whole_statement (Some xs) None a b buf n h c e w = absurd c
whole_statement (Some xs) (Some ys) a b buf n h c e w = subst (Appends a b) (same_statement xs buf ys n h c e) w
