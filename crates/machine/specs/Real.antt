-- Document 01, "Hash and lock" and "Signature check": the machine at SHA-256 and the LMS check.
use Rattle.std.specs.Prelude.{List, ℕ}
use Rattle.sha256.specs.Digest.{sha256}
use Rattle.lms.specs.Check.{check_of}
use Rattle.machine.specs.Checks.{Verdict}
use Rattle.machine.specs.Machine.{step}
use Rattle.machine.specs.declared.state.Book.{Book}
use Rattle.machine.specs.declared.answers.Stepped.{Stepped}

-- A signed message is far below the check's limit of 1,024 bytes, so the check's own refusal is always 0.
abbrev pub lms_verdict : List ℕ → List ℕ → List ℕ → Verdict
lms_verdict key message signature =
    let r = check_of key message signature in
    record { good = r.verdict; steps = r.steps; leaf = r.leaf }

abbrev pub real_step : Book → List ℕ → Stepped
real_step b s = step lms_verdict sha256 b s
