-- What becomes of the dates that an opening is given: whether all exist, whether they fit, and what a book keeps of them.
use mathlib.Core.Path.{◌≡◌, refl, ◌∙◌}
use mathlib.Core.Bool.{Bool, true, false, false≢true}
use mathlib.Core.List.{List}
use Prim.Native.Nat.{ℕ, ◌<◌}
use lib.ListN.{length, replicate}
use borrow.Author.Tests.{lt-leb}
use Rattle.calendar.specs.Days.{rising}
use Rattle.calendar.specs.Lists.{given, all_dates, in_order, kept_days, sound_days}
use Rattle.calendar.proofs.Listing.{kept_sound}

abbrev pub Lists : Bool → List ℕ → List ℕ → ℕ → Bool → Bool → Type 0
Lists dated l days count exist fit =
    (exist ≡ all_dates (given dated l)) × ((fit ≡ in_order (given dated l)) × (fit ≡ true → (days ≡ kept_days (given dated l)) × (count ≡ length (given dated l))))

pub no_list : (dated : Bool) (l : List ℕ) → dated ≡ false → Lists dated l (replicate 64 0) 0 true true
unfolding rising
no_list dated l e = rw e (refl, (refl, λ h. (refl, refl)))

module _ (dated : Bool) (l : List ℕ) (e : dated ≡ true) (exist : Bool) (x : exist ≡ all_dates l) where
  pub long_list : (days : List ℕ) (count : ℕ) → 64 < length l → Lists dated l days count exist false
  long_list days count h = rw (e, lt-leb _ _ h) (x, (refl, λ z. absurd (false≢true z)))

  pub short_list : (days : List ℕ) (count : ℕ) → days ≡ kept_days l → count ≡ length l → (fit : Bool) → fit ≡ sound_days count days → Lists dated l days count exist fit
  short_list days count d n fit h = rw e (x, (h ∙ rw (d, n) (kept_sound l), λ z. (d, n)))
