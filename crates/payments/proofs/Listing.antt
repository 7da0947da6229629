-- Lists of payments and of entries, one by one.
use Prim.Native.Nat.{ℕ, zero, suc, ◌+◌, ◌*◌, ◌/◌, ◌≤◌, ◌<◌}
use native.Mathlib.Nat.{zero-add}
use native.Mathlib.Numerals.{add-one}
use native.Mathlib.Omega.{arith}
use mathlib.Core.Path.{◌≡◌, refl, sym, ap, ◌∙◌}
use mathlib.Core.Bool.{Bool, ◌&&◌}
use mathlib.Core.List.{List, [], ◌∷◌, ◌++◌, append_assoc, append-nil, map}
use lib.ListN.{length, take, drop, get_or, set, length-append, length-map}
use lib.Seq.{paste, take-suc, length-take-le}
use Rattle.std.specs.List.{list_all}
use Rattle.std.specs.Simd.{first_chunks}
use Rattle.std.proofs.lemmas.List.{map-append}
use Rattle.wire.specs.Numbers.{bytes}
use Rattle.wire.specs.Parts.{pasted, all}
use Rattle.wire.proofs.Pasting.{pasted_one, put_next}
use Rattle.payments.specs.declared.lists.Payment.{Payment}
use Rattle.payments.specs.Payments.{listed, payment_of}
use Rattle.payments.specs.Packed.{digits, joined, packed, entry, written, parted, entries_of, payment_in}

-- ---- entries

pub entry_length : (p : Payment) → length (entry p) ≡ 11
unfolding entry bytes packed digits joined
entry_length p = refl

pub written_length : (l : List Payment) → length (written l) ≡ 11 * length l
unfolding written
written_length [] = refl
written_length (p ∷ l) = length-append (entry p) (written l) ∙ omega (arith, entry_length p, written_length l)

written_more : (l : List Payment) (p : Payment) → written (l ++ (p ∷ [])) ≡ written l ++ entry p
unfolding written
written_more [] p = append-nil (entry p)
written_more (q ∷ l) p = ap (λ (x : List ℕ). entry q ++ x) (written_more l p) ∙ sym (append_assoc (entry q) (written l) (entry p))

pub parted_length : (n : ℕ) (x : List ℕ) → length (parted n x) ≡ n
unfolding parted
parted_length zero x = refl
parted_length (suc n) x = ap suc (parted_length n (drop 11 x))

-- The library's chunks are the entries.
pub chunks_are : (n : ℕ) (x : List ℕ) → first_chunks 11 n x ≡ parted n x
unfolding parted
chunks_are zero x = refl
chunks_are (suc n) x = ap (λ (l : List (List ℕ)). take 11 x ∷ l) (chunks_are n (drop 11 x))

pub read_length : (x : List ℕ) → length (map payment_in (entries_of x)) ≡ length x / 11
read_length x = length-map (entries_of x) payment_in ∙ parted_length (length x / 11) x

-- ---- one more

map_next : {A B : Type 0} (f : A → B) (l : List A) (i : ℕ) (d : A) → i < length l → map f (take (i + 1) l) ≡ map f (take i l) ++ (f (get_or l i d) ∷ [])
map_next f l i d h = rw add-one (ap (map f) (take-suc l i d h) ∙ map-append f (take i l) (get_or l i d ∷ []))

-- The payments of entries, stored.
abbrev pub payments : List (List ℕ) → List (List ℕ)
payments x = map listed (map payment_in x)

module _ (d out x : List (List ℕ)) (i : ℕ) (h : i < length x) (w : out ≡ pasted d 0 (payments (take i x))) where
  pub payment_put : (r : List ℕ) → r ≡ listed (payment_in (get_or x i [])) → length x ≤ length d → set out i r ≡ pasted d 0 (payments (take (i + 1) x))
  payment_put r e m =
      let n : length (payments (take i x)) ≡ i = length-map (map payment_in (take i x)) listed ∙ length-map (take i x) payment_in ∙ length-take-le i x (omega arith) in
      let s = rw (zero-add, n) at (pasted_one d 0 (payments (take i x)) r (omega arith)) in
      rw (w, map_next payment_in x i [] h, map-append listed (map payment_in (take i x)) (payment_in (get_or x i []) ∷ []), ← e) s

-- The entries of payments, written.
module _ (d out : List ℕ) (l : List (List ℕ)) (i : ℕ) (h : i < length l) (w : out ≡ pasted d 0 (written (map payment_of (take i l)))) where
  pub entry_put : (r more : List ℕ) → r ≡ entry (payment_of (get_or l i [])) → more ≡ paste out (11 * i) r (length r) → 11 * length l ≤ length d
      → more ≡ pasted d 0 (written (map payment_of (take (i + 1) l)))
  unfolding pasted
  entry_put r more e p m =
      let ps = map payment_of (take i l) in
      let n : length (written ps) ≡ 11 * i = written_length ps ∙ ap (λ (k : ℕ). 11 * k) (length-map (take i l) payment_of ∙ length-take-le i l (omega arith)) in
      (put_next d (written ps) r out more (11 * i) _ w (sym n) p refl (omega arith)).0
      ∙ rw (e, map_next payment_of l i [] h) (ap (pasted d 0) (sym (written_more ps (payment_of (get_or l i [])))))
