-- The chain steps: the bytes of Q give the checksum s, and its two bytes give 510 less s / 256 and s % 256.
use Prim.Native.Nat.{ℕ, zero, suc, ◌+◌, ◌-◌, ◌*◌, ◌/◌, ◌%◌, ◌^◌, ◌≤◌}
use native.Mathlib.Omega.{arith}
use mathlib.Core.Path.{◌≡◌, refl, ap, ◌∙◌}
use mathlib.Core.Bool.{Bool, true, false}
use mathlib.Core.List.{List, [], ◌∷◌, ◌++◌}
use lib.Dec.{leb}
use lib.ListN.{length, get_or, get_or-append}
use lib.Seq.{get_or-append-add}
use Rattle.wire.specs.Numbers.{bytes}
use Rattle.sha256.specs.Digest.{sha256, digest_of}
use Rattle.lms.specs.OneTime.{deficit, checksum, digits, step_count, message_hash}
use Rattle.lms.specs.Layout.{well_formed}
use Rattle.lms.specs.Check.{hash_of, verified_of, checked_by, check_of}
use Rattle.lms.specs.Steps.{StepLaw}

more : (l : List ℕ) (n : ℕ) → deficit l (suc n) ≡ deficit l n + (255 - get_or l n 0)
unfolding deficit
more l n = refl

deficit_most : (l : List ℕ) (n : ℕ) → deficit l n ≤ 255 * n
unfolding deficit
deficit_most l zero = omega arith
deficit_most l (suc n) = omega (arith, deficit_most l n)

deficit_front : (l t : List ℕ) (n : ℕ) → n ≤ length l → deficit (l ++ t) n ≡ deficit l n
unfolding deficit
deficit_front l t zero h = refl
deficit_front l t (suc n) h =
    ap (λ (x : ℕ). x + (255 - get_or (l ++ t) n 0)) (deficit_front l t n (omega arith)) ∙ ap (λ (x : ℕ). deficit l n + (255 - x)) (get_or-append l t 0 n h)

counted : (Q : List ℕ) (s : ℕ) → length Q ≡ 32 → s ≡ checksum Q → deficit (Q ++ s / 256 ^ 1 % 256 ∷ s / 256 ^ 0 % 256 ∷ []) 34 ≡ 255 * (s / 256 + 2)
counted Q s l e =
    let t : List ℕ = s / 256 ^ 1 % 256 ∷ s / 256 ^ 0 % 256 ∷ [] in
    let k₀ : 32 ≡ length Q + 0 = omega arith in
    let k₁ : 33 ≡ length Q + 1 = omega arith in
    let high : get_or (Q ++ t) 32 0 ≡ s / 256 % 256 = ap (λ (i : ℕ). get_or (Q ++ t) i 0) k₀ ∙ get_or-append-add Q t 0 0 in
    let low : get_or (Q ++ t) 33 0 ≡ s / 1 % 256 = ap (λ (i : ℕ). get_or (Q ++ t) i 0) k₁ ∙ get_or-append-add Q t 1 0 in
    let sum : deficit (Q ++ t) 34 ≡ deficit Q 32 + (255 - s / 256 % 256) + (255 - s / 1 % 256) =
    more (Q ++ t) 33
    ∙ ap (λ (x : ℕ). x + (255 - get_or (Q ++ t) 33 0)) (more (Q ++ t) 32 ∙ ap (λ (x : ℕ). x + (255 - get_or (Q ++ t) 32 0)) (deficit_front Q t 32 (omega arith)))
    ∙ ap (λ (x : ℕ). deficit Q 32 + (255 - x) + (255 - get_or (Q ++ t) 33 0)) high
    ∙ ap (λ (x : ℕ). deficit Q 32 + (255 - s / 256 % 256) + (255 - x)) low in
    sum ∙ whole (deficit Q 32) s e (deficit_most Q 32) where
      whole : (d s : ℕ) → s ≡ d → d ≤ 255 * 32 → d + (255 - s / 256 % 256) + (255 - s / 1 % 256) ≡ 255 * (s / 256 + 2)
      whole d s e h = omega arith

law : (Q : List ℕ) → length Q ≡ 32 → step_count Q ≡ 255 * (checksum Q / 256 + 2)
unfolding step_count digits bytes
law Q l = counted Q (checksum Q) l refl

most : (Q : List ℕ) → length Q ≡ 32 → step_count Q ≤ 8415
most Q l = omega (arith, law Q l, deficit_most Q 32)

whole_digest : (m : List ℕ) → length (sha256 m) ≡ 32
unfolding sha256 digest_of bytes
whole_digest m = refl

check_most : (short formed : Bool) (key message signature : List ℕ) → (checked_by short formed (verified_of key message signature)).steps ≤ 8415
unfolding verified_of message_hash
check_most false formed key message signature = omega arith
check_most true false key message signature = omega arith
check_most true true key message signature = most (hash_of key message signature) (whole_digest _)

pub step_law : StepLaw
unfolding check_of
step_law = record { law = law; most = most; check = λ key message signature. check_most (leb (length message) 1024) (well_formed key signature) key message signature }
