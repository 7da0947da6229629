-- Laws of truth values, of what a sound book tells beside its channels, and of equal byte strings.
use mathlib.Core.Path.{◌≡◌, refl}
use mathlib.Core.Bool.{Bool, cond, true, false, false≢true, ◌&&◌, ◌||◌}
use mathlib.Core.List.{List, [], ◌∷◌, map}
use Prim.Native.Nat.{ℕ, ◌≤◌}
use lib.ListN.{length, take}
use lib.Dec.{eqb, leb}
use borrow.Author.Tests.{eqb-true, leb-true, eq-eqb, ne_eqb}
use Rattle.wire.specs.Parts.{same, all}
use Rattle.calendar.specs.Calendar.{day_number}
use Rattle.calendar.specs.Days.{banked}
use Rattle.calendar.specs.Lists.{given, kept_days}
use Rattle.calendar.proofs.Listing.{kept_list}
use Rattle.machine.specs.Book.{limit, shortest, longest, ranged, highest, the_mark, sound_channel, sound_setup, sound}
use Rattle.machine.specs.Opening.{Opening, answerable_by, setup_of}
use Rattle.machine.specs.Rules.{answerable_at}
use Rattle.machine.specs.declared.state.Setup.{Setup}
use Rattle.machine.specs.declared.state.Book.{Book}
use Rattle.wire.proofs.Laws.{and_both}

pub and_middle : (a b c : Bool) → b ≡ false → (a && b && c) ≡ false
and_middle true b c h = rw h
and_middle false b c h = refl

pub and_other : {a b : Bool} → a ≡ true → (a && b) ≡ false → b ≡ false
and_other p h = rw p at h

pub or_either : {P : Type 0} {a b : Bool} → (a || b) ≡ true → (a ≡ true → P) → (b ≡ true → P) → P
or_either {a = true} h f g = f refl
or_either {a = false} h f g = g h

-- What the test of a delay tells.
pub in_range : (d : ℕ) → ranged d ≡ true → (shortest ≤ d) × (d ≤ longest)
in_range d h = let p = and_both (leb shortest d) (leb d longest) h in (leb-true _ _ p.0, leb-true _ _ p.1)

-- What a sound setup tells of the default and of the fee.
pub setup_limits : (s : Setup) → sound_setup s ≡ true → (ranged s.delay ≡ true) × (s.fee ≤ highest)
setup_limits s h =
    let p = and_both _ _ (and_both _ _ (and_both _ _ h).0).0 in
    (p.0, leb-true _ _ p.1)

-- A deadline of a book without a list, and of one with it, as the code takes them.
module _ (s : Setup) (t : ℕ) where
  pub unlisted : s.dated ≡ 0 → t ≡ answerable_at s t
  unfolding answerable_at
  unlisted h = rw (eq-eqb _ _ h)

  pub listed : (s.dated ≡ 0 → ⊥) → banked (take s.count s.days) t ≡ answerable_at s t
  unfolding answerable_at
  listed h = rw (ne_eqb _ _ h)

-- The deadlines of a book just opened are moved by the dates that were given.
pub opening_moves : (o : Opening) (t : ℕ) → answerable_at (setup_of o) t ≡ answerable_by o t
unfolding answerable_at
opening_moves o t = go o.settings.dated
  where
    go : (x : Bool) → cond (eqb (cond x 1 0) 0) t (banked (take (length (given x o.dates)) (kept_days (given x o.dates))) t) ≡ cond x (banked (map day_number o.dates) t) t
    go true = rw (kept_list o.dates)
    go false = refl

-- What is asked of the book beside its channels.
abbrev pub header : Book → Bool
header b = eqb b.mark the_mark && leb b.clock.0 limit && sound_setup b.setup

pub sound_parts : (b : Book) → sound b ≡ true → (header b ≡ true) × (all sound_channel b.channels ≡ true)
unfolding sound
sound_parts b e = and_both (header b) (all sound_channel b.channels) e

-- The setup and the clock.
pub sound_context : (b : Book) → sound b ≡ true → (sound_setup b.setup ≡ true) × (b.clock.0 ≤ limit)
sound_context b e =
    let h = and_both (eqb b.mark the_mark && leb b.clock.0 limit) (sound_setup b.setup) (sound_parts b e).0 in
    (h.1, leb-true b.clock.0 limit (and_both (eqb b.mark the_mark) (leb b.clock.0 limit) h.0).1)

pub same_eq : (x y : List ℕ) → same x y ≡ true → x ≡ y
unfolding same
same_eq [] [] h = refl
same_eq [] (b ∷ y) h = absurd (false≢true h)
same_eq (a ∷ x) [] h = absurd (false≢true h)
same_eq (a ∷ x) (b ∷ y) h =
    let p = and_both (eqb a b) (same x y) h in
    let q : a ≡ b = eqb-true a b p.0 in
    let r : x ≡ y = same_eq x y p.1 in
    cc

-- Strings that differ are not the same.
pub same_ne : (x y : List ℕ) → (x ≡ y → ⊥) → same x y ≡ false
same_ne x y h = go (same x y) refl
  where
    go : (b : Bool) → same x y ≡ b → b ≡ false
    go true e = absurd (h (same_eq x y e))
    go false e = refl
