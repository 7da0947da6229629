use Rattle.std.proofs.Common.{◌≡◌, ◌∙◌, List, ℕ, rules, arith}
use Rattle.std.proofs.lemmas.Iterator.{YieldsList-from_slice}
use Rattle.std.proofs.lemmas.Iterator.Search.{all_from_yields_List}
use Rattle.std.proofs.lemmas.List.{take_all}
use borrow.Author.Tests.{tests}
use Rattle.wire.proofs.Tested.{list_all_is_all}
use Rattle.calendar.specs.Calendar.{is_date}
use Rattle.days.proofs.lists.all_exist.Goals as goal

pub returns : goal.returns
returns c =
    let dates : List ℕ = c.args.dates.now in
    let whole : c.iter.result.rest.now ≡ dates = c.iter.ensures.rest ∙ (grind (arith, take_all)) in
    all_from_yields_List is_date _ _ _ c.all.ensures.ran (YieldsList-from_slice dates whole) (λ x b q k. search (rules, tests)) ∙ list_all_is_all is_date dates
