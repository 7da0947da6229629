use Rattle.sha256_block.specs.Functions.{Σ₀, Σ₁}
use Rattle.sha256_block.specs.Block.{round_of, T₁, T₂}
use Rattle.sha256_block.proofs.rounds.round.Goals as goal

pub returns : goal.returns
unfolding round_of T₁ T₂ Σ₀ Σ₁
returns c = cc
