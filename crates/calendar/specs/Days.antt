-- Document 02, No. 8: shut days, and a deadline moved to the next day that is not shut.
use Rattle.std.specs.Prelude.{◌≡◌, Bool, true, false, cond, ◌&&◌, ◌||◌, List, [], ◌∷◌, ℕ, suc, ◌+◌, ◌*◌, ◌/◌, ◌≤◌, ◌<◌, eqb, ltb}
use Rattle.calendar.specs.Calendar.{weekday}

-- ---- shut days: Saturdays, Sundays and the listed ones

unfoldable pub weekend : ℕ → Bool
weekend d = eqb (weekday d) 6 || eqb (weekday d) 0

unfoldable pub listed : ℕ → List ℕ → Bool
listed d [] = false
listed d (x ∷ l) = eqb x d || listed d l

abbrev pub shut : List ℕ → ℕ → Bool
shut l d = weekend d || listed d l

-- Strictly rising.
unfoldable pub above : ℕ → List ℕ → Bool
above p [] = true
above p (x ∷ l) = ltb p x && above x l

unfoldable pub rising : List ℕ → Bool
rising [] = true
rising (x ∷ l) = above x l

-- ---- the next open day: one pass over a rising list

-- The first day from d on that is no Saturday or Sunday.
unfoldable pub skip : ℕ → ℕ
skip d = cond (eqb (weekday d) 6) (d + 2) (cond (eqb (weekday d) 0) (d + 1) d)

-- The same, and the one after it where x is listed there.
unfoldable pub past : ℕ → ℕ → ℕ
past x d = cond (eqb x (skip d)) (suc (skip d)) (skip d)

unfoldable pub next_open : List ℕ → ℕ → ℕ
next_open [] d = skip d
next_open (x ∷ l) d = next_open l (past x d)

-- ---- a moved deadline

abbrev pub day_seconds : ℕ
day_seconds = 86400

unfoldable pub banked : List ℕ → ℕ → ℕ
banked l t = cond (shut l (t / day_seconds)) (day_seconds * next_open l (t / day_seconds)) t

-- ---- the claim: the same second where its day is open, else 00:00:00 of the first open day after it

-- From d on, r is the first day that is open.
pub record NextOpen (l : List ℕ) (d r : ℕ) : Type 0 where
  pub on : d ≤ r
  pub opens : shut l r ≡ false
  pub between : (k : ℕ) → d ≤ k → k < r → shut l k ≡ true

abbrev pub BankedMeans : Type 0
BankedMeans = (l : List ℕ) → rising l ≡ true → (t : ℕ)
    → (shut l (t / day_seconds) ≡ false → banked l t ≡ t)
    × (shut l (t / day_seconds) ≡ true → (e : ℕ) × (banked l t ≡ day_seconds * e) × NextOpen l (t / day_seconds) e)
