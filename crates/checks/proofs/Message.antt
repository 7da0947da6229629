-- The signed message, as three copies lay it into a buffer.
use mathlib.Core.Path.{◌≡◌, sym, ap, ◌∙◌}
use mathlib.Core.List.{List, ◌++◌}
use Prim.Native.Nat.{ℕ, ◌+◌, ◌-◌, ◌≤◌}
use native.Mathlib.Omega.{arith}
use lib.ListN.{length, take, drop, length-take, length-drop}
use lib.Seq.{paste, length-paste, take-paste, take-length}
use Rattle.machine.specs.Format.{message}

-- After a copy of all of s to place at: what stands before the end of the copy.
grow : (d b s : List ℕ) (at m : ℕ) → b ≡ paste d at s (length s) → at ≤ length d → at + length s ≡ m → take m b ≡ take at d ++ s
grow d b s at m e ha hm =
    ap (λ (k : ℕ). take k b) (sym hm) ∙ ap (λ (l : List ℕ). take (at + length s) l) e
    ∙ take-paste d at s (length s) ha (omega arith) ∙ ap (λ (l : List ℕ). take at d ++ l) (take-length s)

pub message_law : (z id s b₁ b₂ b₃ : List ℕ) (end : ℕ)
    → b₁ ≡ paste z 0 (take 1 s) (length (take 1 s))
    → b₂ ≡ paste b₁ 1 id (length id)
    → b₃ ≡ paste b₂ 17 (take (end - 1) (drop 1 s)) (length (take (end - 1) (drop 1 s)))
    → length z ≡ 67 → length id ≡ 16 → 3 ≤ end → end ≤ 51 → end ≤ length s
    → take (end + 16) b₃ ≡ message end id s
unfolding message
message_law z id s b₁ b₂ b₃ end e₁ e₂ e₃ hz hid h3 h51 hs =
    let x : List ℕ = take 1 s in
    let p : List ℕ = take (end - 1) (drop 1 s) in
    let hx : length x ≡ 1 = simp length-take (omega arith) in
    let hp : length p ≡ end - 1 = simp (length-take, length-drop) (omega arith) in
    let h₁ : length b₁ ≡ 67 = ap length e₁ ∙ length-paste z 0 x (length x) (omega arith) (omega arith) ∙ hz in
    let h₂ : length b₂ ≡ 67 = ap length e₂ ∙ length-paste b₁ 1 id (length id) (omega arith) (omega arith) ∙ h₁ in
    let t₁ : take 1 b₁ ≡ x = grow z b₁ x 0 1 e₁ (omega arith) (omega arith) in
    let t₂ : take 17 b₂ ≡ take 1 b₁ ++ id = grow b₁ b₂ id 1 17 e₂ (omega arith) (omega arith) in
    grow b₂ b₃ p 17 (end + 16) e₃ (omega arith) (omega arith) ∙ ap (λ (l : List ℕ). l ++ p) (t₂ ∙ ap (λ (l : List ℕ). l ++ id) t₁)
