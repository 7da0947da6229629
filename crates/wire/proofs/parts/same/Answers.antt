use Rattle.std.proofs.Common.{◌∙◌, arith}
use Rattle.std.proofs.lemmas.List.{take_all}
use Rattle.wire.proofs.Laws.{same_pointwise}
use Rattle.wire.proofs.parts.same.Goals as goal

pub returns : goal.returns
returns g c = c.eq.ensures ∙ (grind (arith, take_all)) ∙ same_pointwise c.args.a.now c.args.b.now
