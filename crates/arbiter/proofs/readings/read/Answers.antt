use Rattle.std.proofs.Common.{sym, ◌∙◌}
use Rattle.command.proofs.SoundBook.{sound_at}
use Rattle.arbiter.proofs.readings.read.Goals as goal

pub invariant_of-sound : goal.invariant_of-sound
invariant_of-sound c = record { sound = sound_at c.args.book.now c.args.n (sym c.sound.ensures ∙ c.if-not-sound.false) }
