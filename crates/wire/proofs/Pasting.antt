-- Lists over a list: one after another, and element by element.
use Prim.Native.Nat.{ℕ, suc, ◌+◌, ◌≤◌, ◌<◌}
use native.Mathlib.Omega.{arith}
use mathlib.Core.Path.{◌≡◌, refl, sym, ap, ◌∙◌}
use mathlib.Core.List.{List, [], ◌∷◌, ◌++◌, append_assoc}
use lib.ListN.{length, take, drop, set, length-append}
use lib.Seq.{paste, paste-zero, paste-suc, take-paste, drop-paste, length-paste, take-length, take-append_seam, get_or-append_seam, drop-drop}
use Rattle.wire.specs.Parts.{pasted}

module _ {A : Type 0} (d : List A) (at : ℕ) where
  pub pasted_none : pasted d at [] ≡ d
  unfolding pasted
  pasted_none = sym (paste-zero d at [])

  pub length-pasted : (t : List A) → at + length t ≤ length d → length (pasted d at t) ≡ length d
  unfolding pasted
  length-pasted t h = length-paste d at t (length t) h (omega arith)

  -- A list and the one after it.
  pub pasted_more : (s t : List A) → at + length s ≤ length d → pasted (pasted d at s) (at + length s) t ≡ pasted d at (s ++ t)
  unfolding pasted
  pasted_more s t h =
      let n = length s in
      let a : at ≤ length d = omega arith in
      let l : length (s ++ t) ≡ n + length t = length-append s t in
      let m : at + n + length t ≡ at + length (s ++ t) = omega arith in
      let back : drop (at + n + length t) (paste d at s n) ≡ drop (at + length (s ++ t)) d =
      sym (drop-drop (length t) (at + n) (paste d at s n))
      ∙ ap (λ (x : List A). drop (length t) x) (drop-paste d at s n a (omega arith))
      ∙ drop-drop (length t) (at + n) d
      ∙ ap (λ (k : ℕ). drop k d) m in
      rw (take-paste d at s n a (omega arith), back, take-length s, take-length t, take-length (s ++ t), ← append_assoc)

  -- A list and one element more.
  pub pasted_one : (t : List A) (e : A) → at + length t < length d → set (pasted d at t) (at + length t) e ≡ pasted d at (t ++ (e ∷ []))
  unfolding pasted
  pasted_one t e h =
      let s : List A = t ++ (e ∷ []) in
      let l : length s ≡ suc (length t) = length-append t (e ∷ []) ∙ omega arith in
      let p : paste d at t (length t) ≡ paste d at s (length t) = rw (take-length t, take-append_seam t (e ∷ [])) in
      ap (λ (x : List A). set x (at + length t) e) p
      ∙ ap (λ (x : A). set (paste d at s (length t)) (at + length t) x) (sym (get_or-append_seam t e [] e))
      ∙ paste-suc d at s (length t) e h (omega arith)
      ∙ ap (λ (k : ℕ). paste d at s k) (sym l)

-- What stands at the start.
pub take-pasted : {A : Type 0} (d t : List A) → take (length t) (pasted d 0 t) ≡ t
unfolding pasted
take-pasted d t = rw (take-length t) (take-append_seam t (drop (0 + length t) d))

-- A copy, and one element more after it.
pub put_one : {A : Type 0} (d out s t : List A) (at k : ℕ) (e : A) → out ≡ paste d at s (length s) → s ≡ t → k ≡ length s → at + k < length d
    → (set out (at + k) e ≡ pasted d at (t ++ (e ∷ []))) × (at + k + 1 ≡ at + length (t ++ (e ∷ [])))
unfolding pasted
put_one {A = A} d out s t at k e o q l h =
    let n : k ≡ length t = l ∙ ap length q in
    let b : at + length t < length d = omega arith in
    let w : out ≡ pasted d at t = o ∙ ap (λ (x : List A). paste d at x (length x)) q in
    (rw (w, n) (pasted_one d at t e b), simp length-append (omega arith))

-- A list from the start on, and the next.
pub put_next : {A : Type 0} (d s t out more : List A) (n r : ℕ) → out ≡ pasted d 0 s → n ≡ length s → more ≡ pasted out n t → r ≡ n + length t → length s ≤ length d
    → (more ≡ pasted d 0 (s ++ t)) × (r ≡ length (s ++ t))
put_next d s t out more n r o l m e h =
    let k : n ≡ 0 + length s = omega arith in
    (rw (m, o, k) (pasted_more d 0 s t (omega arith)), omega (arith, length-append s t))

-- ---- a list in the making

-- With t still to be written at a place of out, it will be d with w over it from at on.
pub record Towards {A : Type 0} (d : List A) (at : ℕ) (w out : List A) (place : ℕ) (t : List A) : Type 0 where
  pub whole : pasted out place t ≡ pasted d at w
  pub ends : place + length t ≡ at + length w

module _ {A : Type 0} (d : List A) (at : ℕ) (w : List A) where
  pub at_first : Towards d at w d at w
  at_first = record { whole = refl; ends = refl }

  -- Of s and t, s is written.
  pub and_then : (out more u s t : List A) (place next : ℕ) → u ≡ s ++ t → more ≡ pasted out place s → next ≡ place + length s → next ≤ length out
      → Towards d at w out place u → (length more ≡ length out) × Towards d at w more next t
  and_then out more u s t place next c m n h g =
      let b : place + length s ≤ length out = omega arith in (
        ap length m ∙ length-pasted out place s b,
        record {
          whole = rw (m, n) (pasted_more out place s t b) ∙ ap (pasted out place) (sym c) ∙ g.whole;
          ends = omega (arith, g.ends, ap length c, length-append s t);
        },
      )

  -- Nothing is left.
  pub at_last : (out : List A) (place : ℕ) → Towards d at w out place [] → (out ≡ pasted d at w) × (place ≡ at + length w)
  at_last out place g = (sym (pasted_none out place) ∙ g.whole, omega (arith, g.ends))
