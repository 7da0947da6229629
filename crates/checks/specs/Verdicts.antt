-- What the code's signature check says, as a verdict.
use Rattle.std.specs.Prelude.{◌≡◌, true, false, ℕ, Result, MatchResult, is_some, unwrap_or}
use Rattle.lms.specs.declared.Outcome.{Outcome}
use Rattle.machine.specs.Checks.{Verdict}
use Rattle.machine.specs.declared.numbers.Refusal.{Refusal}

abbrev pub verdict_of : Outcome → Verdict
verdict_of o = record { good = is_some o.leaf; steps = o.steps; leaf = unwrap_or o.leaf 0 }

-- The leaf of a good signature, or this refusal.
abbrev pub Says : Verdict → Refusal → Result ℕ Refusal → Type 0
Says v refusal r = MatchResult r (λ leaf. (v.good ≡ true) × (leaf ≡ v.leaf)) (λ e. (v.good ≡ false) × (e ≡ refusal))
