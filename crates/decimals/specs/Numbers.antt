-- Document 01, "Journal and due list": numbers in a row, as text.
use Rattle.std.specs.Prelude.{ℕ, zero, suc, ◌+◌, ◌/◌, ◌%◌, cond, List, [], ◌∷◌, ◌++◌, ltb}

-- A digit in ASCII.
abbrev pub digit : ℕ → ℕ
digit d = 48 + d

-- A number below 10 is its digit; any other is the text of its tenth, and then its last digit. There are at most f digits after the first.
unfoldable pub spelled : ℕ → ℕ → List ℕ
spelled zero n = digit n ∷ []
spelled (suc f) n = cond (ltb n 10) (digit n ∷ []) (spelled f (n / 10) ++ (digit (n % 10) ∷ []))

-- A number in decimal.
unfoldable pub decimal : ℕ → List ℕ
decimal n = spelled n n

-- What closes a number: a blank where others follow, else the byte 0A.
unfoldable pub closer : List ℕ → ℕ
closer [] = 0x0A
closer (n ∷ ns) = 0x20

-- A row of numbers.
unfoldable pub row : List ℕ → List ℕ
row [] = []
row (n ∷ ns) = decimal n ++ (closer ns ∷ row ns)
