use Rattle.std.proofs.Common.{sym, true, ◌∙◌, ◌≡◌}
use Rattle.machine.specs.Book.{sound}
use Rattle.machine.specs.Due.{due}
use Rattle.machine.proofs.Laws.{sound_parts}
use Rattle.arbiter.proofs.next.due.Goals as goal

pub soonest_of-requires : goal.soonest_of-requires
soonest_of-requires c = (sound_parts c.args.book.now (sym c.sound.ensures ∙ c.if-not-sound.false)).1

pub returns-in-Some : goal.returns-in-Some
unfolding due
returns-in-Some c =
    let s : sound c.args.book.now ≡ true = sym c.sound.ensures ∙ c.if-not-sound.false in
    let e = rw c.in-Some.is at c.soonest_of.ensures in
    rw (s, ← e)

pub returns-in-None : goal.returns-in-None
unfolding due
returns-in-None c =
    let s : sound c.args.book.now ≡ true = sym c.sound.ensures ∙ c.if-not-sound.false in
    let e = rw c.in-None.is at c.soonest_of.ensures in
    rw (s, ← e)
