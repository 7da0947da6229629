-- Document 01, "Journal and due list": of the channels in status 4 or 5 the one with the smallest deadline. Document 02, No. 9: of those with
-- equal deadlines the one with the larger held sum, and only then the lower number.
use Rattle.std.specs.Prelude.{◌≡◌, Bool, true, false, cond, not, ◌&&◌, ◌||◌, List, [], ◌∷◌, ℕ, suc, ◌≤◌, ◌<◌, eqb, ltb, leb, Option, Some, None}
use Rattle.machine.specs.Book.{cents, seconds, held, sound, closing, channel}
use Rattle.machine.specs.declared.units.Cents.{Cents}
use Rattle.machine.specs.declared.units.Seconds.{Seconds}
use Rattle.machine.specs.declared.state.Channel.{Channel}
use Rattle.machine.specs.declared.state.Book.{Book}

-- A closing channel, its deadline and what it holds, if there is some.
pub record Soonest : Type 0 where
  pub some : Bool
  pub number : ℕ
  pub deadline : Seconds
  pub held : Cents

-- A channel comes before another with a later deadline, and before one with an equal deadline that holds no more.
abbrev pub precedes : Channel → Soonest → Bool
precedes ch rest = ltb ch.deadline.0 rest.deadline.0 || (eqb ch.deadline.0 rest.deadline.0 && leb rest.held.0 (held ch))

-- Channel n, or the soonest of those after it.
unfoldable pub sooner : ℕ → Channel → Soonest → Soonest
sooner n ch rest = cond (closing ch && (not rest.some || precedes ch rest)) (record { some = true; number = n; deadline = ch.deadline; held = cents (held ch) }) rest

-- The soonest of a list whose first channel has number n.
unfoldable pub soonest : ℕ → List Channel → Soonest
soonest n [] = record { some = false; number = 0; deadline = seconds 0; held = cents 0 }
soonest n (ch ∷ l) = sooner n ch (soonest (suc n) l)

-- The paper's answer: the number of a channel, or none.
pub data Due : Type 0 where
  number : ℕ → Due
  none : Due

-- What the code's answer says.
abbrev pub value_of : Option ℕ → Due
value_of (Some n) = number n
value_of None = none

-- None exactly when the book is unsound or has no such channel.
unfoldable pub due : Book → Due
due b = cond (sound b && (soonest 0 b.channels).some) (number (soonest 0 b.channels).number) none

-- What due says, channel by channel. The channel n that it names is closing, with the smallest deadline; where deadlines are equal it holds no
-- less than any other, and more than those with lower numbers.
pub record FirstDue (b : Book) (n : ℕ) : Type 0 where
  pub steady : sound b ≡ true
  pub closes : closing (channel b n) ≡ true
  pub least : (m : ℕ) → closing (channel b m) ≡ true → (channel b n).deadline.0 ≤ (channel b m).deadline.0
  pub larger : (m : ℕ) → closing (channel b m) ≡ true → (channel b m).deadline.0 ≡ (channel b n).deadline.0 → held (channel b m) ≤ held (channel b n)
  pub lower : (m : ℕ) → closing (channel b m) ≡ true → m < n → (channel b m).deadline.0 ≡ (channel b n).deadline.0 → held (channel b m) < held (channel b n)

-- Where it names none, the book is unsound or no channel is closing.
pub record DueMeans (b : Book) : Type 0 where
  pub named : (n : ℕ) → due b ≡ number n → FirstDue b n
  pub unnamed : due b ≡ none → sound b ≡ true → (m : ℕ) → closing (channel b m) ≡ false
