use Rattle.std.proofs.Common.{◌*◌, ◌∙◌, div-one, refl}
use Rattle.wire.specs.Numbers.{bytes}
use Rattle.sha256.proofs.bytes.bit_length.Goals as goal

pub returns : goal.returns
unfolding bytes
returns c = c.to_be_bytes.ensures ∙ rw (div-one (8 * c.args.n)) refl
