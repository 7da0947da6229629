-- What a sound book tells of each channel, and the test of a book in parts.
use mathlib.Core.Path.{◌≡◌, refl}
use mathlib.Core.Bool.{Bool, true, ◌&&◌}
use Prim.Native.Nat.{ℕ}
use Rattle.wire.specs.Parts.{all}
use Rattle.machine.specs.Book.{sound_channel, sound, channel, no_channel}
use Rattle.machine.specs.declared.state.Book.{Book}
use Rattle.wire.proofs.Tested.{all_at}
use Rattle.machine.proofs.Laws.{header, sound_parts}

pub sound_at : (b : Book) (n : ℕ) → sound b ≡ true → sound_channel (channel b n) ≡ true
unfolding sound_channel
sound_at b n e = all_at sound_channel b.channels n no_channel refl (sound_parts b e).1

-- The test in two parts.
pub in_parts : (b : Book) {x y : Bool} → x ≡ header b → y ≡ all sound_channel b.channels → (x && y) ≡ sound b
unfolding sound
in_parts b p q = rw (p, q)
