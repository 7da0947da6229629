-- The three parts are written one behind the other.
use Rattle.std.proofs.Common.{◌≡◌, refl, ap, ◌∙◌, ℕ, List, [], ◌++◌, length, replicate, length-append, arith}
use lib.Seq.{paste}
use Rattle.wire.specs.Numbers.{bytes}
use Rattle.wire.proofs.Laws.{bytes_length}
use Rattle.signer.proofs.Parts.{put_on}
use Rattle.signer.proofs.signing.write_front.Goals as goal

fronted : (q : ℕ) (number four C k₀ k₁ k₂ k₃ : List ℕ) → k₀ ≡ replicate 1452 0 → number ≡ bytes 4 q → four ≡ bytes 4 4 → length C ≡ 32
    → k₁ ≡ paste k₀ 0 number (length number) → k₂ ≡ paste k₁ 4 four (length four) → k₃ ≡ paste k₂ 8 C (length C)
    → k₃ ≡ bytes 4 q ++ bytes 4 4 ++ C ++ replicate 1412 0
fronted q number four C k₀ k₁ k₂ k₃ e₀ eₙ e₄ lC p₁ p₂ p₃ =
    let lₙ : length number ≡ 4 = ap length eₙ ∙ bytes_length 4 q in
    let l₄ : length four ≡ 4 = ap length e₄ ∙ bytes_length 4 4 in
    let m₂ : length (number ++ four) ≡ 8 = length-append number four ∙ omega arith in
    let f₁ : k₁ ≡ number ++ replicate 1448 0 = put_on [] number k₀ k₁ 0 4 1448 e₀ p₁ refl lₙ in
    let f₂ : k₂ ≡ number ++ four ++ replicate 1444 0 = put_on number four k₁ k₂ 4 4 1444 f₁ p₂ lₙ l₄ in
    put_on (number ++ four) C k₂ k₃ 8 32 1412 f₂ p₃ m₂ lC
    ∙ ap (λ (x : List ℕ). x ++ four ++ C ++ replicate 1412 0) eₙ
    ∙ ap (λ (x : List ℕ). bytes 4 q ++ x ++ C ++ replicate 1412 0) e₄

pub returns : goal.returns
returns c =
    fronted c.args.leaf c.u32_bytes-number.result c.u32_bytes-four.result c.args.nonce _ _ _ _ c.requires c.u32_bytes-number.ensures c.u32_bytes-four.ensures
    (omega arith) c.copy_into.ensures c.copy_into-2.ensures c.copy_into-3.ensures
