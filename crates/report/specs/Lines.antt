-- Document 01, "Journal and due list": the lines of a statement; document 02, No. 7: the fee as the last field of a line.
use Rattle.std.specs.Prelude.{ℕ, suc, List, [], ◌∷◌, ◌++◌}
use Rattle.journal.specs.declared.lines.Line.{Line}
use Rattle.decimals.specs.Numbers.{row}

-- A line holds its number, refusal, customer's cents, merchant's cents, chain steps, and the fee.
unfoldable pub fields : ℕ → Line → List ℕ
fields n l = n ∷ l.answer.refusal ∷ l.answer.customer.0 ∷ l.answer.merchant.0 ∷ l.answer.steps ∷ l.answer.fee.0 ∷ []

-- Lines, numbered from n on.
unfoldable pub lines_from : ℕ → List Line → List ℕ
lines_from n [] = []
lines_from n (l ∷ ls) = row (fields n l) ++ lines_from (suc n) ls

-- `end `, and the last line: `end`, bytes used after the id, cause.
abbrev pub end_word : List ℕ
end_word = 0x65 ∷ 0x6E ∷ 0x64 ∷ 0x20 ∷ []

unfoldable pub end_line : ℕ → ℕ → List ℕ
end_line used cause = end_word ++ row (used ∷ cause ∷ [])

-- `no book` and `too long`, each with the byte 0A.
abbrev pub no_book : List ℕ
no_book = 0x6E ∷ 0x6F ∷ 0x20 ∷ 0x62 ∷ 0x6F ∷ 0x6F ∷ 0x6B ∷ 0x0A ∷ []

abbrev pub too_long : List ℕ
too_long = 0x74 ∷ 0x6F ∷ 0x6F ∷ 0x20 ∷ 0x6C ∷ 0x6F ∷ 0x6E ∷ 0x67 ∷ 0x0A ∷ []
