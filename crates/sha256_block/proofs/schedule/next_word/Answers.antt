use Rattle.sha256_block.specs.Functions.{σ₀, σ₁}
use Rattle.sha256_block.specs.Block.{next_word}
use Rattle.sha256_block.proofs.schedule.next_word.Goals as goal

pub returns : goal.returns
unfolding next_word σ₀ σ₁
returns c = cc
