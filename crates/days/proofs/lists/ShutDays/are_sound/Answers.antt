use Rattle.std.proofs.Common.{◌∙◌, rules}
use Rattle.std.specs.Prelude.{nat_lt}
use Rattle.std.proofs.lemmas.Iterator.{YieldsList-from_slice}
use Rattle.std.proofs.lemmas.Iterator.Search.{all_from_yields_List}
use Rattle.std.proofs.lemmas.List.Sorted.{answers_always}
use borrow.Author.Tests.{tests}
use Rattle.wire.proofs.Tested.{list_all_is_all}
use Rattle.calendar.proofs.Listing.{in_time, rising_by, sound_by}
use Rattle.days.proofs.lists.ShutDays.are_sound.Goals as goal

pub returns : goal.returns
returns c =
    let l = c.listed-listed.result.now in
    let climbs = c.is_sorted_by.ensures.cases nat_lt (answers_always _ _ _ (λ f a r g k. search rules)) in
    let early = all_from_yields_List in_time _ _ _ c.all.ensures.ran (YieldsList-from_slice l cc) (λ x b q k. search (rules, tests)) in
    sound_by c.args.self.days c.args.self.count l c.listed-listed.ensures _ _ (rising_by l _ climbs) (early ∙ list_all_is_all in_time l)
