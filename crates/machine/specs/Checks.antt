-- Document 01, "Checks, in this order": the first no decides, and the chain steps of the signature checks made are counted.
use Rattle.std.specs.Prelude.{Bool, cond, List, [], ◌∷◌, ℕ, ◌+◌, eqb}
use Rattle.machine.specs.Answered.{Judged}

-- What a signature check says: is the signature good, how many chain steps were made, and the leaf of a good one.
pub record Verdict : Type 0 where
  pub good : Bool
  pub steps : ℕ
  pub leaf : ℕ

-- A check has a number, which is the refusal where it says no. A signature check has a verdict.
pub data Check : Type 0 where
  test : ℕ → Bool → Check
  signed : ℕ → Verdict → Check

abbrev pub number_of : Check → ℕ
number_of (test r ok) = r
number_of (signed r v) = r

-- No check made yet.
abbrev pub clean : Judged
clean = record { refusal = 0; steps = 0 }

abbrev pub passed : Judged → Bool
passed j = eqb j.refusal 0

-- A check that is made: a signature check counts its chain steps, whether it says yes or no.
abbrev pub made : Judged → Check → Judged
made j (test r ok) = record { refusal = cond ok j.refusal r; steps = j.steps }
made j (signed r v) = record { refusal = cond v.good j.refusal r; steps = j.steps + v.steps }

-- A check is made only where all before it said yes.
unfoldable pub ask : Judged → Check → Judged
ask j k = cond (passed j) (made j k) j

abbrev pub judge : Judged → List Check → Judged
judge j [] = j
judge j (k ∷ l) = judge (ask j k) l
