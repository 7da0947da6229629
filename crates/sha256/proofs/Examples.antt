-- The definition gives the published digests: antt computes it on each message.
use mathlib.Core.Path.{refl}
use Rattle.sha256_block.specs.Functions.{rotr, shr, Ch, Maj, Σ₀, Σ₁, σ₀, σ₁}
use Rattle.sha256_block.specs.Block.{words, next_word, extended, schedule, T₁, T₂, round_of, rounds, sum_of, compress_words, compress_of}
use Rattle.wire.specs.Numbers.{bytes, u32_at}
use Rattle.sha256.specs.Padding.{padding, padded}
use Rattle.sha256.specs.Digest.{H⁰, hashed, digest_of, sha256}
use Rattle.sha256.specs.Examples.{Examples}

pub examples : Examples
unfolding sha256 hashed digest_of H⁰ padded padding bytes compress_of compress_words schedule extended words u32_at next_word rounds round_of T₁ T₂ sum_of σ₀ σ₁ Σ₀ Σ₁ Ch Maj rotr shr
examples = record { empty = refl; abc = refl; bits448 = refl; bits896 = refl }
