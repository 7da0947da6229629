-- Entries byte by byte: packed decimal, and what the eleven bytes of an entry say.
use Prim.Native.Nat.{ℕ, zero, suc, ◌+◌, ◌*◌, ◌/◌, ◌%◌, ◌^◌, ◌≤◌, ◌<◌}
use native.Mathlib.Nat.{mul_left_comm, pow-succ', pow-le-pow_right}
use native.Mathlib.Numerals.{add-one}
use native.Mathlib.Omega.{arith}
use mathlib.Core.Path.{◌≡◌, refl, sym, ap, subst, ◌∙◌}
use mathlib.Core.Bool.{Bool, true, ◌&&◌, and-true, and_assoc}
use mathlib.Core.List.{List, [], ◌∷◌, ◌++◌, append_assoc}
use lib.Dec.{eqb}
use lib.ListN.{length, get_or, take, drop, drop_of_length-le, length-append}
use lib.Seq.{drop-cons, paste, take-suc, take_all}
use Rattle.std.specs.Prelude.{replicate}
use Rattle.std.specs.List.{fold}
use Rattle.wire.specs.Numbers.{bytes}
use Rattle.wire.specs.Parts.{all}
use Rattle.wire.proofs.Laws.{both}
use Rattle.payments.specs.declared.lists.Payment.{Payment}
use Rattle.payments.specs.Packed.{digits, spelled, joined, halves, packed, entry, amount_in, is_digit, is_packed}

-- ---- writing

-- An entry: one byte, two and eight.
module _ (p : Payment) (n a out more : List ℕ) where
  pub entry_is : n ≡ p.channel % 65536 / 256 % 256 ∷ p.channel % 65536 % 256 ∷ [] → out ≡ paste (replicate 11 (p.party % 256)) 1 n (length n)
      → a ≡ packed p.amount.0 → more ≡ paste out 3 a (length a) → more ≡ entry p
  unfolding entry bytes packed digits joined
  entry_is e o m w = w ∙ rw (m, o, e) (both (omega arith) (both (omega arith) (both (omega arith) refl)))

-- ---- reading

-- The elements of a list from place i on, one by one.
abbrev ones : ℕ → ℕ → List ℕ → List ℕ
ones zero i e = []
ones (suc k) i e = get_or e i 0 ∷ ones k (suc i) e

one_by_one : (k i : ℕ) (e : List ℕ) → i + k ≡ length e → drop i e ≡ ones k i e
one_by_one zero i e h = let g : length e ≤ i = omega arith in drop_of_length-le e g
one_by_one (suc k) i e h = drop-cons e i 0 (omega arith) ∙ ap (λ (l : List ℕ). get_or e i 0 ∷ l) (one_by_one k (suc i) e (omega arith))

eleven : (e : List ℕ) → length e ≡ 11 → e ≡ ones 11 0 e
eleven e h = one_by_one 11 0 e (omega arith)

-- Its bytes of two digits, and the halves of its amount.
abbrev pub pairs : List ℕ → List ℕ
pairs e = take 7 (drop 3 e)

fifteen : (e : List ℕ) → length e ≡ 11 → take 15 (halves (drop 3 e)) ≡ halves (pairs e) ++ (get_or e 10 0 / 16 ∷ [])
unfolding halves
fifteen e h = subst (λ (l : List ℕ). take 15 (halves (drop 3 l)) ≡ halves (pairs l) ++ (get_or l 10 0 / 16 ∷ [])) (sym (eleven e h)) refl

sixteenth : (e : List ℕ) → length e ≡ 11 → get_or (halves (drop 3 e)) 15 0 ≡ get_or e 10 0 % 16
unfolding halves
sixteenth e h = subst (λ (l : List ℕ). get_or (halves (drop 3 l)) 15 0 ≡ get_or l 10 0 % 16) (sym (eleven e h)) refl

pub pairs_length : (e : List ℕ) → length e ≡ 11 → length (pairs e) ≡ 7
pairs_length e h = subst (λ (l : List ℕ). length (pairs l) ≡ 7) (sym (eleven e h)) refl

-- One byte more.
halves_more : (bs : List ℕ) (b : ℕ) → halves (bs ++ (b ∷ [])) ≡ halves bs ++ (b / 16 ∷ b % 16 ∷ [])
unfolding halves
halves_more [] b = refl
halves_more (x ∷ bs) b = ap (λ (l : List ℕ). x / 16 ∷ x % 16 ∷ l) (halves_more bs b)

-- One digit more.
spelled_more : (ds : List ℕ) (d : ℕ) → spelled (ds ++ (d ∷ [])) ≡ spelled ds * 10 + d
unfolding spelled
spelled_more [] d = omega arith
spelled_more (x ∷ ds) d =
    let n : length (ds ++ (d ∷ [])) ≡ suc (length ds) = length-append ds (d ∷ []) ∙ omega arith in
    rw (n, spelled_more ds d, pow-succ' 10 (length ds)) (place x (10 ^ length ds) (spelled ds))
  where
    place : (x m s : ℕ) → x * (10 * m) + (s * 10 + d) ≡ (x * m + s) * 10 + d
    place x m s = omega (arith, mul_left_comm x 10 m)

spelled_two : (ds : List ℕ) (h k : ℕ) → spelled (ds ++ (h ∷ k ∷ [])) ≡ spelled ds * 100 + (h * 10 + k)
spelled_two ds h k =
    ap spelled (sym (append_assoc ds (h ∷ []) (k ∷ []))) ∙ spelled_more (ds ++ (h ∷ [])) k ∙ ap (λ (x : ℕ). x * 10 + k) (spelled_more ds h) ∙ omega arith

-- What the halves of the first bytes spell: of one more, within its bound, and of all.
pub amount_next : (bs : List ℕ) (i a n : ℕ) → i < length bs → a ≡ spelled (halves (take i bs)) → n ≡ get_or bs i 0 / 16 * 10 + get_or bs i 0 % 16
    → a * 100 + n ≡ spelled (halves (take (i + 1) bs))
amount_next bs i a n h e m =
    let b = get_or bs i 0 in
    let t : halves (take (i + 1) bs) ≡ halves (take i bs) ++ (b / 16 ∷ b % 16 ∷ []) = rw add-one (ap halves (take-suc bs i 0 h) ∙ halves_more (take i bs) b) in
    rw (e, m, t) (sym (spelled_two (halves (take i bs)) (b / 16) (b % 16)))

pub bound_next : (i a n : ℕ) → a + 2 ≤ 2 * 100 ^ i → n ≤ 165 → a * 100 + n + 2 ≤ 2 * 100 ^ (i + 1)
bound_next i a n h m = rw (add-one, pow-succ' 100 i) (omega arith)

pub bound_within : (i a k : ℕ) → i ≤ k → a + 2 ≤ 2 * 100 ^ i → a ≤ 2 * 100 ^ k
bound_within i a k h b = let p : 100 ^ i ≤ 100 ^ k = pow-le-pow_right (omega arith) h in omega arith

pub amount_is : (e : List ℕ) (a i : ℕ) → length e ≡ 11 → a ≡ spelled (halves (take i (pairs e))) → length (pairs e) ≤ i → a * 10 + get_or e 10 0 / 16 ≡ amount_in e
unfolding amount_in
amount_is e a i h s n =
    rw (s, take_all i (pairs e) n) (sym (spelled_more (halves (pairs e)) (get_or e 10 0 / 16))) ∙ ap spelled (sym (fifteen e h))

-- Tests of digits, two at a time.
abbrev pub both_digits : ℕ → Bool
both_digits b = is_digit (b / 16) && is_digit (b % 16)

abbrev pub folded : Bool → List ℕ → Bool
folded r bs = fold (λ (ok : Bool) (b : ℕ). ok && both_digits b) r bs

digits_more : (r : Bool) (bs : List ℕ) (a : ℕ) → (folded r bs && is_digit a) ≡ (r && all is_digit (halves bs ++ (a ∷ [])))
unfolding halves
digits_more r [] a = ap (λ (t : Bool). r && t) (sym (and-true (is_digit a)))
digits_more r (b ∷ bs) a =
    digits_more (r && both_digits b) bs a ∙ and_assoc r (both_digits b) (all is_digit (halves bs ++ (a ∷ [])))
    ∙ ap (λ (t : Bool). r && t) (and_assoc (is_digit (b / 16)) (is_digit (b % 16)) (all is_digit (halves bs ++ (a ∷ []))))

pub is_packed_by : (e : List ℕ) (r : Bool) → length e ≡ 11 → r ≡ folded true (pairs e)
    → (r && is_digit (get_or e 10 0 / 16) && eqb (get_or e 10 0 % 16) 0xC) ≡ is_packed e
unfolding is_packed
is_packed_by e r h t = rw (t, digits_more true (pairs e) (get_or e 10 0 / 16), ← fifteen e h, ← sixteenth e h) refl
