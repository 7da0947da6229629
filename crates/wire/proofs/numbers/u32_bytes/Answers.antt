use Rattle.std.proofs.Common.{◌∙◌, refl, arith}
use Rattle.wire.specs.Numbers.{bytes}
use Rattle.wire.proofs.Laws.{both}
use Rattle.wire.proofs.numbers.u32_bytes.Goals as goal

pub returns : goal.returns
unfolding bytes
returns c = c.to_be_bytes.ensures ∙ both (omega arith) (both (omega arith) (both (omega arith) (both (omega arith) refl)))
