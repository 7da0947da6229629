use Rattle.std.proofs.Common.{◌∙◌, rules}
use Rattle.std.proofs.lemmas.Iterator.{YieldsList-from_slice}
use Rattle.std.proofs.lemmas.Iterator.Search.{all_from_yields_List}
use borrow.Author.Tests.{tests}
use Rattle.wire.proofs.Tested.{list_all_is_all}
use Rattle.machine.specs.Book.{sound_channel}
use Rattle.command.proofs.SoundBook.{in_parts}
use Rattle.command.proofs.soundness.sound.Goals as goal

pub returns : goal.returns
returns c =
    let b = c.args.book.now in
    in_parts b (rw c.sound_setup.ensures) (all_from_yields_List sound_channel _ _ _ c.all.ensures.ran (YieldsList-from_slice b.channels cc) (λ x b q k. search (rules, tests)) ∙ list_all_is_all sound_channel b.channels)
