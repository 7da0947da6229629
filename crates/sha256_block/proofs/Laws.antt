-- Laws of the schedule and of the rounds, by which the code's steps, taken one by one, are the definition's.
use Rattle.std.proofs.Common.{◌≡◌, ℕ, zero, suc, ◌+◌, ◌-◌, ◌*◌, ◌%◌, ◌<◌, ◌≤◌, Bool, true, false, ltb, List, [], ◌∷◌, ◌++◌, length, get_or, take, drop, sym, refl, ap, ◌∙◌, append_assoc, append-nil, add_assoc, suc-add, zero-add, arith, length-append, get_or-drop, get_or-take, get_or-append-add, drop-cons, ltb-false, ltb-true}
use Rattle.std.proofs.Math.ListN.{set, get_or-append}
use Rattle.std.proofs.Math.Seq.{take-add}
use Rattle.std.proofs.lemmas.List.{length-take, take_more_set, drop-set-lt, drop-drop}
use Rattle.std.specs.Int.{rotate_right, w32}
use Rattle.wire.specs.Numbers.{u32_at}
use Rattle.wire.specs.Parts.{part}
use Rattle.sha256_block.specs.declared.rounds.Variables.{Variables}
use Rattle.sha256_block.specs.Functions.{rotr}
use Rattle.sha256_block.specs.Constants.{K}
use Rattle.sha256_block.specs.Block.{round_of, rounds, extended, next_word, Wₜ}
use Rattle.sha256_block.specs.Ring.{Ring}

-- A rotation.
pub rotated : (x n : ℕ) → 0 < n → n < 32 → rotate_right w32 x n ≡ rotr n x
unfolding rotr
rotated x n p h =
    let a : n % 32 ≡ n = omega arith in
    let b : (32 - n) % 32 ≡ 32 - n = omega arith in
    rw (a, b)

-- One round, and the rest.
pub turn : (k w : ℕ) (ks ws : List ℕ) (v : Variables) {u r : Variables} → u ≡ round_of v k w → r ≡ rounds ks ws u → r ≡ rounds (k ∷ ks) (w ∷ ws) v
unfolding rounds
turn k w ks ws v p q = q ∙ ap (rounds ks ws) p

-- No round.
pub turned : {v : Variables} → v ≡ rounds [] [] v
unfolding rounds
turned = refl

-- No word more.
pub enough : (w : List ℕ) → extended 0 w ≡ w
unfolding extended
enough w = refl

-- Some words more, and then some.
extended_add : (m n : ℕ) (w : List ℕ) → extended (m + n) w ≡ extended n (extended m w)
unfolding extended
extended_add zero n w = ap (λ (k : ℕ). extended k w) (zero-add n)
extended_add (suc m) n w = ap (λ (k : ℕ). extended k w) (suc-add m n) ∙ extended_add m n (w ++ Wₜ w ∷ [])

-- What stands before the last sixteen words is not looked at.
at_end : (p w : List ℕ) (k : ℕ) → k ≤ length w → get_or (p ++ w) (length (p ++ w) - k) 0 ≡ get_or w (length w - k) 0
at_end p w k h =
    let e : length (p ++ w) - k ≡ length p + (length w - k) = omega (arith, length-append p w) in
    ap (λ (i : ℕ). get_or (p ++ w) i 0) e ∙ get_or-append-add p w (length w - k) 0

next_front : (p w : List ℕ) → 16 ≤ length w → Wₜ (p ++ w) ≡ Wₜ w
next_front p w h = cc (at_end p w 2 (omega arith), at_end p w 7 (omega arith), at_end p w 15 (omega arith), at_end p w 16 h)

extended_front : (n : ℕ) (p w : List ℕ) → 16 ≤ length w → extended n (p ++ w) ≡ p ++ extended n w
unfolding extended
extended_front zero p w h = refl
extended_front (suc n) p w h =
    let e : (p ++ w) ++ Wₜ (p ++ w) ∷ [] ≡ p ++ (w ++ Wₜ w ∷ []) = ap (λ (x : ℕ). (p ++ w) ++ x ∷ []) (next_front p w h) ∙ append_assoc p w (Wₜ w ∷ []) in
    ap (extended n) e ∙ extended_front n p (w ++ Wₜ w ∷ []) (omega (arith, length-append w (Wₜ w ∷ [])))

-- No constant is left.
pub none_left : (ws : List ℕ) (v : Variables) → v ≡ rounds [] ws v
unfolding rounds
none_left ws v = refl

-- Rounds, and then some.
rounds_then : (ks ws ls us : List ℕ) (v : Variables) → length ks ≡ length ws → rounds (ks ++ ls) (ws ++ us) v ≡ rounds ls us (rounds ks ws v)
unfolding rounds
rounds_then [] [] ls us v h = refl
rounds_then [] (w ∷ ws) ls us v h = absurd (omega arith)
rounds_then (k ∷ ks) [] ls us v h = absurd (omega arith)
rounds_then (k ∷ ks) (w ∷ ws) ls us v h = rounds_then ks ws ls us (round_of v k w) (omega arith)

-- With i rounds made, n more.
pub more_rounds : (n i : ℕ) (ks ws : List ℕ) (h v r : Variables) → length ks ≡ length ws → v ≡ rounds (take i ks) (take i ws) h → r ≡ rounds (part ks i n) (part ws i n) v
    → r ≡ rounds (take (i + n) ks) (take (i + n) ws) h
more_rounds n i ks ws h v r l p q =
    let m : length (take i ks) ≡ length (take i ws) = simp length-take (omega arith) in
    rw (q, p, take-add i n ks, take-add i n ws) (sym (rounds_then (take i ks) (take i ws) (part ks i n) (part ws i n) h m))

-- Four elements from place i on.
pub four_of : (l : List ℕ) (i : ℕ) → i + 4 ≤ length l → part l i 4 ≡ get_or l i 0 ∷ get_or l (i + 1) 0 ∷ get_or l (i + 2) 0 ∷ get_or l (i + 3) 0 ∷ []
four_of l i h =
    let a : i + 1 ≡ suc i = omega arith in
    let b : i + 2 ≡ suc (suc i) = omega arith in
    let c : i + 3 ≡ suc (suc (suc i)) = omega arith in
    rw (a, b, c, drop-cons l i 0 (omega arith), drop-cons l (suc i) 0 (omega arith), drop-cons l (suc (suc i)) 0 (omega arith), drop-cons l (suc (suc (suc i))) 0 (omega arith))

-- What stands at the place k before the next, in the words and in the ring.
ring_at : (x w : List ℕ) (i k : ℕ) → i < 16 → 0 < k → k ≤ 16 → length x ≡ 16 → length w ≡ 16 → Ring x i w → get_or (x ++ take i w) (16 + i - k) 0 ≡ get_or w ((i + (16 - k)) % 16) 0
ring_at x w i k a b c d e r = go (ltb i k) refl where
  go : (t : Bool) → ltb i k ≡ t → get_or (x ++ take i w) (16 + i - k) 0 ≡ get_or w ((i + (16 - k)) % 16) 0
  go true t =
      let h : i < k = ltb-true i k t in
      let m : 16 + i - k ≡ i + (16 - k) = omega arith in
      let n : (i + (16 - k)) % 16 ≡ i + (16 - k) = omega arith in
      rw (get_or-append x (take i w) 0 (16 + i - k) (omega arith), m, n) (sym (get_or-drop i x (16 - k) 0) ∙ ap (λ (l : List ℕ). get_or l (16 - k) 0) (sym r.left) ∙ get_or-drop i w (16 - k) 0)
  go false t =
      let h : k ≤ i = ltb-false i k t in
      let m : 16 + i - k ≡ length x + (i - k) = omega arith in
      let n : (i + (16 - k)) % 16 ≡ i - k = omega arith in
      rw (m, n) (get_or-append-add x (take i w) (i - k) 0 ∙ get_or-take i w (i - k) 0 (omega arith))

-- One word more in the ring.
pub ring_on : (x w : List ℕ) (i n : ℕ) → i < 16 → length x ≡ 16 → length w ≡ 16 → n ≡ next_word (get_or w ((i + 14) % 16) 0) (get_or w ((i + 9) % 16) 0) (get_or w ((i + 1) % 16) 0) (get_or w i 0)
    → Ring x i w → Ring x (i + 1) (set w i n)
unfolding extended
ring_on x w i n h d e q r =
    let z : (i + 0) % 16 ≡ i = omega arith in
    let l : length (x ++ take i w) ≡ 16 + i = length-append x (take i w) ∙ omega (arith, length-take i w) in
    let next : Wₜ (x ++ take i w) ≡ n =
    cc (l, q, z, ring_at x w i 2 h (omega arith) (omega arith) d e r, ring_at x w i 7 h (omega arith) (omega arith) d e r, ring_at x w i 15 h (omega arith) (omega arith) d e r, ring_at x w i 16 h (omega arith) (omega arith) d e r) in
    record {
      made =
          extended_add i 1 x
          ∙ ap (λ (u : List ℕ). u ++ Wₜ u ∷ []) r.made
          ∙ ap (λ (y : ℕ). (x ++ take i w) ++ y ∷ []) next
          ∙ append_assoc x (take i w) (n ∷ [])
          ∙ ap (λ (u : List ℕ). x ++ u) (sym (take_more_set w i n (omega arith)));
      left = drop-set-lt (i + 1) w i n (omega arith) ∙ sym (drop-drop 1 i w) ∙ ap (drop 1) r.left ∙ drop-drop 1 i x;
    }

-- The same ring, its place spelled another way.
pub ring_same : (x w : List ℕ) (i j : ℕ) → i ≡ j → Ring x i w → Ring x j w
ring_same x w i j e r = rw (← e) r

-- Sixteen rounds of those that are left, before quarter i of a block: w is its words and w' those of the next quarter, where there is one.
pub quarter : (i : ℕ) (ks w w' : List ℕ) (v v' : Variables) → i < 4 → drop (16 * i) K ≡ ks ++ drop (16 * (i + 1)) K → length ks ≡ length w → length w' ≡ 16
    → (i < 3 → extended 16 w ≡ w ++ w') → v' ≡ rounds ks w v
    → rounds (drop (16 * i) K) (extended (48 - 16 * i) w) v ≡ rounds (drop (16 * (i + 1)) K) (extended (48 - 16 * (i + 1)) w') v'
quarter i ks w w' v v' h k l m next e = go (ltb i 3) refl where
  go : (b : Bool) → ltb i 3 ≡ b → rounds (drop (16 * i) K) (extended (48 - 16 * i) w) v ≡ rounds (drop (16 * (i + 1)) K) (extended (48 - 16 * (i + 1)) w') v'
  go true t =
      let n : 48 - 16 * i ≡ 16 + (48 - 16 * (i + 1)) = omega (arith, ltb-true i 3 t) in
      let x : extended (48 - 16 * i) w ≡ w ++ extended (48 - 16 * (i + 1)) w' =
      ap (λ (j : ℕ). extended j w) n
      ∙ extended_add 16 (48 - 16 * (i + 1)) w
      ∙ ap (extended (48 - 16 * (i + 1))) (next (ltb-true i 3 t))
      ∙ extended_front (48 - 16 * (i + 1)) w w' (omega arith) in
      ap (λ (u : List ℕ). rounds (drop (16 * i) K) u v) x
      ∙ ap (λ (u : List ℕ). rounds u (w ++ extended (48 - 16 * (i + 1)) w') v) k
      ∙ rounds_then ks w (drop (16 * (i + 1)) K) (extended (48 - 16 * (i + 1)) w') v l
      ∙ ap (rounds (drop (16 * (i + 1)) K) (extended (48 - 16 * (i + 1)) w')) (sym e)
  go false t =
      let n : i ≡ 3 = omega (arith, ltb-false i 3 t) in
      let z : 48 - 16 * i ≡ 0 = omega arith in
      let end : drop (16 * (i + 1)) K ≡ [] = ap (λ (j : ℕ). drop (16 * (j + 1)) K) n in
      ap (λ (u : List ℕ). rounds u (extended (48 - 16 * i) w) v) (k ∙ ap (λ (u : List ℕ). ks ++ u) end ∙ append-nil ks)
      ∙ ap (λ (j : ℕ). rounds ks (extended j w) v) z
      ∙ ap (λ (u : List ℕ). rounds ks u v) (enough w)
      ∙ sym e
      ∙ none_left (extended (48 - 16 * (i + 1)) w') v'
      ∙ ap (λ (u : List ℕ). rounds u (extended (48 - 16 * (i + 1)) w') v') (sym end)

-- A word of the block that starts at byte at of s.
byte_in : (s : List ℕ) (at j : ℕ) → j < 64 → get_or s (at + j) 0 ≡ get_or (take 64 (drop at s)) j 0
byte_in s at j h = sym (get_or-take 64 (drop at s) j 0 h ∙ get_or-drop at s j 0)

pub word_in : (s : List ℕ) (at j : ℕ) → j + 3 < 64 → u32_at s (at + j) ≡ u32_at (take 64 (drop at s)) j
unfolding u32_at
word_in s at j h =
    cc (
      byte_in s at j (omega arith),
      byte_in s at (j + 1) (omega arith),
      byte_in s at (j + 2) (omega arith),
      byte_in s at (j + 3) (omega arith),
      add_assoc at j 1,
      add_assoc at j 2,
      add_assoc at j 3,
    )
