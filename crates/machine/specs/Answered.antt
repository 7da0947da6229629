-- What checks come to, and what a rule makes of its channel.
use Rattle.std.specs.Prelude.{ℕ}
use Rattle.machine.specs.declared.state.Channel.{Channel}
use Rattle.machine.specs.declared.answers.Answer.{Answer}

-- The number of the first check that said no, or 0, and the chain steps of the signature checks made.
pub record Judged : Type 0 where
  pub refusal : ℕ
  pub steps : ℕ

-- The channel that a command leaves, and its answer.
pub record Ruled : Type 0 where
  pub channel : Channel
  pub answer : Answer
