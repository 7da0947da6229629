use Rattle.std.proofs.Common.{◌≡◌, ℕ, zero, suc, ◌+◌, ◌-◌, ◌*◌, ◌<◌, List, [], ◌∷◌, ◌++◌, length, get_or, drop, sym, refl, ap, ◌∙◌, arith}
use Rattle.sha256_block.specs.Constants.{K, K₀, K₁₆, K₃₂, K₄₈}
use Rattle.sha256_block.specs.Block.{extended, schedule, rounds, sum_of, compress_words}
use Rattle.sha256_block.proofs.Laws.{quarter, none_left}
use Rattle.sha256_block.proofs.rounds.compress_words.Goals as goal

-- The constants stand in quarters.
quartered : (d : List ℕ) (i : ℕ) → i < 4 → (drop (16 * i) K ≡ get_or (K₀ ∷ K₁₆ ∷ K₃₂ ∷ K₄₈ ∷ []) i d ++ drop (16 * (i + 1)) K) × (length (get_or (K₀ ∷ K₁₆ ∷ K₃₂ ∷ K₄₈ ∷ []) i d) ≡ 16)
quartered d zero h = (refl, refl)
quartered d (suc zero) h = (refl, refl)
quartered d (suc (suc zero)) h = (refl, refl)
quartered d (suc (suc (suc zero))) h = (refl, refl)
quartered d (suc (suc (suc (suc i)))) h = absurd (omega arith)

pub loop-i-preserved : goal.loop-i-preserved
loop-i-preserved c =
    let l = c.loop-i in
    let q = quartered _ l.i (omega arith) in (
      omega arith,
      l.invariant.1 ∙ quarter l.i _ l.w c.words_after-w.result l.v c.sixteen_rounds-v.result (omega arith) q.0 (q.1 ∙ sym l.invariant.0) (omega arith) c.words_after-w.ensures c.sixteen_rounds-v.ensures,
    )

pub returns : goal.returns
unfolding compress_words schedule
returns c =
    let l = c.loop-i in
    let n : l.i ≡ 4 = omega arith in
    let w : List ℕ = l.w in
    c.sum.ensures
    ∙ ap (sum_of c.args.h) (none_left (extended (48 - 16 * 4) w) l.v ∙ ap (λ (j : ℕ). rounds (drop (16 * j) K) (extended (48 - 16 * j) w) l.v) (sym n) ∙ sym l.invariant.1)
