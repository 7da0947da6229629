-- Laws of digits, of chains and of what is written into them.
use Prim.Native.Nat.{ℕ, suc, ◌+◌, ◌-◌, ◌*◌, ◌/◌, ◌%◌, ◌^◌, ◌≤◌, ◌<◌}
use native.Mathlib.Numerals.{add-one}
use native.Mathlib.Omega.{arith}
use mathlib.Core.Path.{◌≡◌, refl, ap, sym, subst, ◌∙◌}
use mathlib.Core.List.{List, [], ◌∷◌, ◌++◌, append_assoc, append-nil}
use lib.ListN.{length, take, drop, get_or, set, replicate, length-append, length-set}
use lib.Seq.{paste, set_at, take_at, drop_at, take_all, take-suc-set, take-length}
use Rattle.wire.specs.Numbers.{bytes}
use Rattle.wire.proofs.Laws.{both}
use Rattle.sha256.specs.declared.state.Sha256.{Sha256}
use Rattle.sha256.specs.Digest.{digest_of, sha256}
use Rattle.sha256.specs.State.{Taken}
use Rattle.sha256.specs.State as state
use Rattle.lms.specs.OneTime.{deficit, checksum, digits, chain_step, walk}
use Rattle.lms.specs.Rows.{row}
use Rattle.lms.specs.Begun.{Begun}
use Rattle.lms.specs.Walked.{chain_start, Fed}

pub digest_length : (m : List ℕ) → length (sha256 m) ≡ 32
unfolding sha256 digest_of bytes
digest_length m = refl

-- One number more in the sum.
pub deficit_more : (l : List ℕ) (n : ℕ) {s d : ℕ} → s ≡ deficit l n → d ≡ get_or l n 0 → s + (255 - d) ≡ deficit l (n + 1)
unfolding deficit
deficit_more l n {s} {d} e f = ap (λ (x : ℕ). x + (255 - d)) e ∙ ap (λ (x : ℕ). deficit l n + (255 - x)) f ∙ ap (deficit l) (sym (add-one n))

-- One step of a chain, of those up to m.
pub walk_on : (s x y : List ℕ) (m j : ℕ) → j < m → y ≡ chain_step s j x → walk s (m - j) j x ≡ walk s (m - (j + 1)) (j + 1) y
unfolding walk
walk_on s x y m j h e =
    let n : m - j ≡ suc (m - (j + 1)) = omega arith in
    ap (λ (k : ℕ). walk s k j x) n ∙ ap (walk s (m - (j + 1)) (suc j)) (sym e) ∙ ap (λ (k : ℕ). walk s (m - (j + 1)) k y) (sym (add-one j))

pub walked : (s x : List ℕ) (m j : ℕ) → m ≤ j → walk s (m - j) j x ≡ x
unfolding walk
walked s x m j h =
    let n : m - j ≡ 0 = omega arith in
    ap (λ (k : ℕ). walk s k j x) n

-- The last byte of 23 is written.
pub last_written : (p : List ℕ) (j : ℕ) → length p ≡ 23 → set p 22 j ≡ take 22 p ++ j ∷ []
last_written p j l =
    sym (take_all 23 (set p 22 j) (omega (arith, length-set p 22 j))) ∙ take-suc-set p 22 j (omega arith)

-- A chain step, with the step's number in the last byte of 23.
pub stepped : (p x y : List ℕ) (j : ℕ) → length p ≡ 23 → j < 256 → y ≡ sha256 (set p 22 j ++ x) → y ≡ chain_step (take 22 p) j x
unfolding chain_step bytes
stepped p x y j l h e =
    let b : j ≡ j / 256 ^ 0 % 256 = omega arith in
    e ∙ ap (λ (t : List ℕ). sha256 (t ++ x)) (last_written p j l ∙ ap (λ (k : ℕ). take 22 p ++ k ∷ []) b)

-- The digits of a hash, as they are written: the bytes of the hash into zeros, and then the checksum.
pub digits_written : (q d : List ℕ) (s : ℕ) → length q ≡ 32 → d ≡ paste (replicate 34 0) 0 q (length q) → s ≡ checksum q → s ≤ 255 * 32
    → set (set d 32 (s / 256)) 33 (s % 256) ≡ digits q
unfolding digits bytes
digits_written q d s l e c b =
    let z : List ℕ = replicate 34 0 in
    let e₃₂ : d ≡ q ++ 0 ∷ 0 ∷ [] =
    e ∙ ap (λ (x : List ℕ). x ++ drop (0 + length q) z) (take-length q) ∙ ap (λ (k : ℕ). q ++ drop (0 + k) z) l in
    let h : s / 256 ≡ s / 256 ^ 1 % 256 = omega arith in
    let o : s % 256 ≡ s / 256 ^ 0 % 256 = omega arith in
    ap (λ (x : List ℕ). set (set x 32 (s / 256)) 33 (s % 256)) e₃₂
    ∙ ap (λ (x : List ℕ). set x 33 (s % 256)) (set_at q 0 (0 ∷ []) (s / 256) 32 l ∙ sym (append_assoc q (s / 256 ∷ []) (0 ∷ [])))
    ∙ set_at (q ++ s / 256 ∷ []) 0 [] (s % 256) 33 (omega (arith, length-append q (s / 256 ∷ [])))
    ∙ append_assoc q (s / 256 ∷ []) (s % 256 ∷ [])
    ∙ ap (λ (x : List ℕ). q ++ x) (both h (both o refl))
    ∙ ap (λ (x : ℕ). q ++ x / 256 ^ 1 % 256 ∷ x / 256 ^ 0 % 256 ∷ []) c

-- What the chains' hashes begin with, as it is written: the number over zeros, behind the identifier.
pub started : (I b : List ℕ) → length I ≡ 16
    → take 16 (I ++ replicate 7 0) ++ (b ++ drop 4 (drop 16 (I ++ replicate 7 0))) ≡ I ++ b ++ 0 ∷ 0 ∷ 0 ∷ []
started I b l =
    let z : List ℕ = replicate 7 0 in
    ap (λ (x : List ℕ). x ++ (b ++ drop 4 (drop 16 (I ++ z)))) (take_at I z 16 l)
    ∙ ap (λ (x : List ℕ). I ++ (b ++ drop 4 x)) (drop_at I z 16 l)
    ∙ sym (append_assoc I b (0 ∷ 0 ∷ 0 ∷ []))

-- The identifier is their first 16 bytes.
pub start_identifier : (I s : List ℕ) (q : ℕ) → length I ≡ 16 → s ≡ chain_start I q → I ≡ take 16 s
start_identifier I s q l e =
    sym (ap (take 16) (e ∙ append_assoc I (bytes 4 q) (0 ∷ 0 ∷ 0 ∷ [])) ∙ take_at I (bytes 4 q ++ 0 ∷ 0 ∷ 0 ∷ []) 16 l)

-- The chain's number is written into what its hashes begin with.
pub numbered : (I s : List ℕ) (q i : ℕ) → length I ≡ 16 → i < 256 → s ≡ chain_start I q → take 22 (set s 21 i) ≡ I ++ bytes 4 q ++ bytes 2 i
unfolding bytes
numbered I s q i l h e =
    let p : List ℕ = I ++ bytes 4 q in
    let lp : length (p ++ 0 ∷ []) ≡ 21 = omega (arith, length-append p (0 ∷ []), length-append I (bytes 4 q)) in
    let li : length (p ++ 0 ∷ i ∷ []) ≡ 22 = omega (arith, length-append p (0 ∷ i ∷ []), length-append I (bytes 4 q)) in
    let z : 0 ≡ i / 256 ^ 1 % 256 = omega arith in
    let o : i ≡ i / 256 ^ 0 % 256 = omega arith in
    ap (λ (x : List ℕ). take 22 (set x 21 i)) (e ∙ sym (append_assoc p (0 ∷ []) (0 ∷ 0 ∷ [])))
    ∙ ap (take 22) (set_at (p ++ 0 ∷ []) 0 (0 ∷ []) i 21 lp ∙ append_assoc p (0 ∷ []) (i ∷ 0 ∷ []) ∙ sym (append_assoc p (0 ∷ i ∷ []) (0 ∷ [])))
    ∙ take_at (p ++ 0 ∷ i ∷ []) (0 ∷ []) 22 li
    ∙ ap (λ (x : List ℕ). p ++ x) (both z (both o refl))

-- One string more in a row.
pub row_more : (f : ℕ → List ℕ) (b x : List ℕ) (n : ℕ) → x ≡ f n → b ++ row f n ++ x ≡ b ++ row f (n + 1)
unfolding row
row_more f b x n e =
    append_assoc b (row f n) x ∙ ap (λ (y : List ℕ). b ++ (row f n ++ y)) e ∙ ap (λ (k : ℕ). b ++ row f k) (sym (add-one n))

-- Before the first chain the state is that of I, q and 8080.
pub none_fed : (I : List ℕ) (q : ℕ) (end : ℕ → List ℕ) (s : Sha256) → Begun I q 0x80 s → Fed I q end 0 s
unfolding row bytes
none_fed I q end s b = record { count = b.count; taken = subst (Taken s) (sym (append-nil (I ++ bytes 4 q ++ bytes 2 0x8080))) b.taken }

-- One end more is fed.
pub more_fed : (I : List ℕ) (q : ℕ) (end : ℕ → List ℕ) (x : List ℕ) (n : ℕ) (s t : Sha256) → x ≡ end n → Fed I q end n s
    → length x ≡ 32 → state.Fed s x t → Fed I q end (n + 1) t
more_fed I q end x n s t e fed l taken =
    record {
      count = omega (arith, fed.count, taken.longer);
      taken = subst (Taken t) (row_more end (I ++ bytes 4 q ++ bytes 2 0x8080) x n e) (taken.taken _ fed.taken);
    }
