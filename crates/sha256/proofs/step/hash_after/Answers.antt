-- The block's words are those of the 23 bytes, the hash value and their padding.
use Rattle.std.proofs.Common.{◌≡◌, ℕ, List, ◌∷◌, ap, ◌∙◌, length, arith}
use Rattle.sha256.proofs.Behind.{block_words, hashed_again}
use Rattle.sha256.proofs.step.hash_after.Goals as goal

-- Eight words.
eight : {a b c d e f g h a' b' c' d' e' f' g' h' : ℕ} {l : List ℕ} → a ≡ a' → b ≡ b' → c ≡ c' → d ≡ d' → e ≡ e' → f ≡ f' → g ≡ g' → h ≡ h'
    → a ∷ b ∷ c ∷ d ∷ e ∷ f ∷ g ∷ h ∷ l ≡ a' ∷ b' ∷ c' ∷ d' ∷ e' ∷ f' ∷ g' ∷ h' ∷ l
eight p q r s t u v w = cc

pub returns : goal.returns
returns c =
    let f = c.args.first in
    let v = c.args.v in
    let l : length f ≡ 23 = omega arith in
    let seam = c.from_be_bytes-seam.result in
    let ws = block_words f v l _ _ _ _ _ seam c.u32_at.ensures c.u32_at-2.ensures c.u32_at-3.ensures c.u32_at-4.ensures c.u32_at-5.ensures c.from_be_bytes-seam.ensures (omega arith) in
    let js =
    ap (λ (x : List ℕ). c.u32_at.result ∷ c.u32_at-2.result ∷ c.u32_at-3.result ∷ c.u32_at-4.result ∷ c.u32_at-5.result ∷ seam ∷ x)
    (eight c.joined.ensures c.joined-2.ensures c.joined-3.ensures c.joined-4.ensures c.joined-5.ensures c.joined-6.ensures c.joined-7.ensures c.joined-8.ensures) in
    hashed_again f v l _ _ _ (js ∙ ws) c.initial.ensures c.compress_words.ensures
