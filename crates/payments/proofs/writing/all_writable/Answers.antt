use Rattle.std.proofs.Common.{rules, tests, Bool, List, ℕ, ◌∙◌}
use Rattle.std.proofs.lemmas.Iterator.{YieldsList-from_slice}
use Rattle.std.proofs.lemmas.Iterator.Search.{all_from_yields_List}
use Rattle.wire.proofs.Tested.{all_map}
use Rattle.payments.specs.Payments.{payment_of}
use Rattle.payments.specs.Answers.{writable}
use Rattle.wire.proofs.Tested.{list_all_is_all}
use Rattle.payments.proofs.writing.all_writable.Goals as goal

abbrev fits : List ℕ → Bool
fits e = writable (payment_of e)

pub returns : goal.returns
returns c =
    let l = c.args.list.now in
    all_from_yields_List fits _ _ _ c.all.ensures.ran (YieldsList-from_slice l cc) (λ x b q k. search (rules, tests)) ∙ list_all_is_all fits l ∙ all_map payment_of writable l
