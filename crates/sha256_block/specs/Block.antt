-- FIPS 180-4, sections 5.2.1 and 6.2.2: the hash value after one block.
use Rattle.std.specs.Prelude.{ℕ, zero, suc, ◌-◌, List, [], ◌∷◌, ◌++◌, length, slice_index}
use Rattle.wire.specs.Numbers.{u32_at}
use Rattle.sha256_block.specs.declared.rounds.Variables.{Variables}
use Rattle.sha256_block.specs.Functions.{◌⊞◌, Ch, Maj, Σ₀, Σ₁, σ₀, σ₁}
use Rattle.sha256_block.specs.Constants.{K}

-- Section 5.2.1: a block of 64 bytes is sixteen words of four bytes each.
unfoldable pub words : List ℕ → List ℕ
words b = u32_at b 0 ∷ u32_at b 4 ∷ u32_at b 8 ∷ u32_at b 12 ∷ u32_at b 16 ∷ u32_at b 20 ∷ u32_at b 24 ∷ u32_at b 28 ∷ u32_at b 32 ∷ u32_at b 36 ∷ u32_at b 40 ∷ u32_at b 44 ∷ u32_at b 48 ∷ u32_at b 52 ∷ u32_at b 56 ∷ u32_at b 60 ∷ []

-- Section 6.2.2, step 1: Wₜ = σ₁(Wₜ₋₂) + Wₜ₋₇ + σ₀(Wₜ₋₁₅) + Wₜ₋₁₆.
unfoldable pub next_word : ℕ → ℕ → ℕ → ℕ → ℕ
next_word w₂ w₇ w₁₅ w₁₆ = σ₁ w₂ ⊞ w₇ ⊞ σ₀ w₁₅ ⊞ w₁₆

-- The word that follows W₀ .. Wₜ₋₁.
abbrev pub Wₜ : List ℕ → ℕ
Wₜ w = next_word (slice_index w (length w - 2)) (slice_index w (length w - 7)) (slice_index w (length w - 15)) (slice_index w (length w - 16))

-- The words w and n more.
unfoldable pub extended : ℕ → List ℕ → List ℕ
extended zero w = w
extended (suc n) w = extended n (w ++ Wₜ w ∷ [])

-- The message schedule W₀ to W₆₃, from the block's words.
unfoldable pub schedule : List ℕ → List ℕ
schedule w = extended 48 w

-- Step 3: T₁, T₂ and one round, with the constant k and the word w.
unfoldable pub T₁ : Variables → ℕ → ℕ → ℕ
T₁ v k w = v.h ⊞ Σ₁ v.e ⊞ Ch v.e v.f v.g ⊞ k ⊞ w

unfoldable pub T₂ : Variables → ℕ
T₂ v = Σ₀ v.a ⊞ Maj v.a v.b v.c

unfoldable pub round_of : Variables → ℕ → ℕ → Variables
round_of v k w = record { a = T₁ v k w ⊞ T₂ v; b = v.a; c = v.b; d = v.c; e = v.d ⊞ T₁ v k w; f = v.e; g = v.f; h = v.g }

-- One round for each constant and word.
unfoldable pub rounds : List ℕ → List ℕ → Variables → Variables
rounds [] ws v = v
rounds (k ∷ ks) [] v = v
rounds (k ∷ ks) (w ∷ ws) v = rounds ks ws (round_of v k w)

-- Step 4: the sum with the hash value before.
unfoldable pub sum_of : Variables → Variables → Variables
sum_of x y = record { a = x.a ⊞ y.a; b = x.b ⊞ y.b; c = x.c ⊞ y.c; d = x.d ⊞ y.d; e = x.e ⊞ y.e; f = x.f ⊞ y.f; g = x.g ⊞ y.g; h = x.h ⊞ y.h }

-- Steps 1 to 4: the hash value after h and the block of the words w.
unfoldable pub compress_words : Variables → List ℕ → Variables
compress_words h w = sum_of h (rounds K (schedule w) h)

-- The same of the block b.
unfoldable pub compress_of : Variables → List ℕ → Variables
compress_of h b = compress_words h (words b)
