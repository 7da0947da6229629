use Rattle.std.proofs.Common.{refl}
use Rattle.sha256.specs.Digest.{H⁰}
use Rattle.sha256.proofs.state.initial.Goals as goal

pub returns : goal.returns
unfolding H⁰
returns c = refl
