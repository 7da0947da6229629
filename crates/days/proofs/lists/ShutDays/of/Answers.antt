use Rattle.std.proofs.Common.{◌≡◌, ◌∙◌, sym, refl, arith, List, ℕ, Bool, true, false, length}
use Rattle.std.specs.Bool.{then_some}
use Rattle.std.specs.Option.{MatchOption}
use Rattle.calendar.specs.Lists.{in_order, kept_days}
use Rattle.calendar.proofs.Listing.{kept_more, kept_whole, kept_order}
use Rattle.days.specs.declared.lists.ShutDays.{ShutDays}
use Rattle.days.proofs.lists.ShutDays.of.Goals as goal

kept_if : (l : List ℕ) (shut : ShutDays) → shut.days ≡ kept_days l → shut.count ≡ length l → (sound : Bool) → sound ≡ in_order l
    → MatchOption (then_some sound shut) (in_order l ≡ false) (λ s. (in_order l ≡ true) × (s.days ≡ kept_days l) × (s.count ≡ length l))
kept_if l shut d n true e = (sym e, d, n)
kept_if l shut d n false e = sym e

pub loop-i-preserved : goal.loop-i-preserved
loop-i-preserved c = rw c.loop-i.invariant (kept_more c.args.dates.now c.loop-i.i c.if-dates-gt64.false (omega arith) _ c.day_number.ensures)

pub returns : goal.returns
returns c =
    let l = c.args.dates.now in
    let k : c.loop-i.days ≡ kept_days l = c.loop-i.invariant ∙ kept_whole l c.loop-i.i (omega arith) (omega arith) in
    rw c.then_some.ensures (kept_if l _ k refl _ (c.are_sound.ensures ∙ kept_order l _ c.if-dates-gt64.false k))
