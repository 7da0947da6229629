use Rattle.std.proofs.Common.{rules, tests, ◌∙◌}
use Rattle.std.proofs.lemmas.Iterator.{YieldsList-from_slice}
use Rattle.std.proofs.lemmas.Iterator.Search.{all_from_yields_List}
use Rattle.payments.specs.Packed.{good}
use Rattle.wire.proofs.Tested.{list_all_is_all}
use Rattle.payments.proofs.reading.all_good.Goals as goal

pub returns : goal.returns
returns c = all_from_yields_List good _ _ _ c.all.ensures.ran (YieldsList-from_slice c.args.entries.now cc) (λ x b q k. search (rules, tests)) ∙ list_all_is_all good c.args.entries.now
